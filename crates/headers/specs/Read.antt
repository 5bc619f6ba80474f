-- The number that stands at a named member of a record of an image, and the image with it written: what the codecs are held to. Assumes nothing.
use Rattle.std.specs.Prelude.{ℕ, ◌+◌, List}
use Rattle.std.proofs.Math.Option.{Option, none, some}
use Rattle.field.specs.Field.{num, put_num}
use Rattle.field.specs.declared.Order.{Order}
use Rattle.headers.specs.Layout.{CType, Designator, Placed, placed}
use Rattle.headers.specs.Fs.{fs, cg}
use Rattle.headers.specs.Dinode.{ufs2_dinode}
use Rattle.headers.specs.Dir.{direct}
use Rattle.headers.specs.Extattr.{extattr}

-- the number of a member of the record at `base`: of its width, at its place; a name that is not there has no bytes to read
unfoldable pub num_at : Order → Option Placed → ℕ → List ℕ → ℕ
num_at o none base img = num o 0 base img
num_at o (some p) base img = num o p.width (base + p.at) img

-- the image with a number written so
unfoldable pub put_at : Order → Option Placed → ℕ → ℕ → List ℕ → List ℕ
put_at o none base v img = put_num o 0 base v img
put_at o (some p) base v img = put_num o p.width (base + p.at) v img

-- the number at a named member; to unfold this is to compute the place
unfoldable pub field_at : Order → CType → Designator → ℕ → List ℕ → ℕ
unfolding num_at placed fs cg ufs2_dinode direct extattr
field_at o t p base img = num_at o (placed t p) base img

-- the image with the number v written at a named member
unfoldable pub put_field : Order → CType → Designator → ℕ → ℕ → List ℕ → List ℕ
unfolding put_at placed fs cg ufs2_dinode direct extattr
put_field o t p base v img = put_at o (placed t p) base v img
