-- 01, "Directory records and attributes": the public calls, with the order of refusals. Assumes nothing: these are definitions.
use Rattle.std.specs.Prelude.{List, ℕ, ◌+◌, length, ltb, Option, Some, None, Result, Ok, Err}
use Rattle.field.specs.Field.{put}
use Rattle.refusal.specs.declared.Refusal.TheVariants.{Damaged, NoAttribute, BufferTooSmall}
use Rattle.volume.specs.declared.Geometry.{Geometry}
use Rattle.inode.specs.Size.{pick}
use Rattle.inode.specs.Places.{extsize_at}
use Rattle.inode_read.specs.Calls.{place_in, known_of}
use Rattle.attrrec.specs.declared.Entry.{Entry}
use Rattle.attrrec.specs.Record.{gap, value_len}
use Rattle.attrrec.specs.Search.{find_in, Texts, texts, bad, list_in}
use Rattle.xattr.specs.declared.Area.{Area}
use Rattle.xattr.specs.Area.{area_of, gathered}
use Rattle.inode_run.specs.declared.Spot.{Spot}
use Rattle.refusal.specs.declared.Damage.{Damage}
use Rattle.refusal.specs.declared.Refusal.{Refusal}

-- ---- one attribute, by its text

-- "87: no such attribute"; lengths that do not fit are 97
abbrev pub hit_of : Area → Result (Option (ℕ × Entry)) Damage → Result (Area × ℕ × Entry) Refusal
hit_of a (Ok (Some (b, e))) = Ok (a, b, e)
hit_of a (Ok None) = Err NoAttribute
hit_of a (Err harm) = Err Damaged

abbrev pub hit_in : Geometry → List ℕ → List ℕ → Result Area Damage → Result (Area × ℕ × Entry) Refusal
hit_in geo img name (Ok a) = hit_of a (find_in geo.order (gathered a img) name)
hit_in geo img name (Err harm) = Err Damaged

-- of the inode whose record is at `at`
unfoldable pub hit_at : Geometry → ℕ → List ℕ → List ℕ → Result (Area × ℕ × Entry) Refusal
hit_at geo at img name = hit_in geo img name (area_of geo at img)

abbrev pub hit_known : List ℕ → List ℕ → Result (Geometry × Spot) Refusal → Result (Area × ℕ × Entry) Refusal
hit_known img name (Ok (geo, s)) = hit_at geo s.at img name
hit_known img name (Err e) = Err e

-- the tests of both calls that name an attribute, in their order
unfoldable pub read_xattr : List ℕ → ℕ → List ℕ → Result (Area × ℕ × Entry) Refusal
read_xattr img i name = hit_known img name (known_of (place_in img i))

-- ---- xattr_list_len: "is extsize, as the Rust"

abbrev pub extsize_known : List ℕ → Result (Geometry × Spot) Refusal → Result ℕ Refusal
extsize_known img (Ok (geo, s)) = Ok (extsize_at geo.order s.at img)
extsize_known img (Err e) = Err e

unfoldable pub xattr_list_len : List ℕ → ℕ → Result ℕ Refusal
xattr_list_len img i = extsize_known img (known_of (place_in img i))

-- ---- xattr_len

abbrev pub length_of : Result (Area × ℕ × Entry) Refusal → Result ℕ Refusal
length_of (Ok (a, b, e)) = Ok (value_len b e)
length_of (Err e) = Err e

unfoldable pub xattr_len : List ℕ → ℕ → List ℕ → Result ℕ Refusal
xattr_len img i name = length_of (read_xattr img i name)

-- ---- xattr_read: "handed back as parts of a lent buffer: .. the attribute area gathered into it (34 if shorter than extsize)"

-- the value's place in the area
abbrev pub place_of : ℕ → Entry → Result (ℕ × ℕ) Refusal
place_of b e = Ok ((b + gap b e.namelen), (b + gap b e.namelen + value_len b e))

abbrev pub value_of : List ℕ → List ℕ → Result (Area × ℕ × Entry) Refusal → List ℕ × Result (ℕ × ℕ) Refusal
value_of img buf (Ok (a, b, e)) =
    pick (ltb (length buf) a.size) (buf, Err BufferTooSmall) (put 0 (gathered a img) buf, place_of b e)
value_of img buf (Err e) = (buf, Err e)

unfoldable pub xattr_read : List ℕ → ℕ → List ℕ → List ℕ → List ℕ × Result (ℕ × ℕ) Refusal
xattr_read img i name buf = value_of img buf (read_xattr img i name)

-- ---- xattr_list: the text of each attribute and a NUL; 34 if the buffer is shorter than that

-- how long they are; "lengths that do not fit, are 97"
abbrev pub measured : Texts → Result ℕ Refusal
measured (texts t) = Ok (length t)
measured bad = Err Damaged

abbrev pub texts_put : List ℕ → Texts → List ℕ × Result ℕ Refusal
texts_put out (texts t) = pick (ltb (length out) (length t)) (out, Err BufferTooSmall) (put 0 t out, Ok (length t))
texts_put out bad = (out, Err Damaged)

abbrev pub list_lies : Geometry → List ℕ → List ℕ → Result Area Damage → List ℕ × Result ℕ Refusal
list_lies geo img out (Ok a) = texts_put out (list_in geo.order (gathered a img))
list_lies geo img out (Err harm) = (out, Err Damaged)

abbrev pub list_known : List ℕ → List ℕ → Result (Geometry × Spot) Refusal → List ℕ × Result ℕ Refusal
list_known img out (Ok (geo, s)) = list_lies geo img out (area_of geo s.at img)
list_known img out (Err e) = (out, Err e)

unfoldable pub xattr_list : List ℕ → ℕ → List ℕ → List ℕ × Result ℕ Refusal
xattr_list img i out = list_known img out (known_of (place_in img i))
