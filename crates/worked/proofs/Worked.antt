-- Every starred line is what the definitions give: one computed proof. Assumes nothing.
use mathlib.Core.Path.{◌≡◌, refl}
use mathlib.Core.Bool.{true}
use Rattle.field.specs.Field.{put}
use Rattle.bits.specs.Upto.{all, first}
use Rattle.bits.specs.Bits.{bit, bit_at, bits_are, block_free, first_free, put_bits, put_bits_at}
use Rattle.attrrec.specs.Record.{gap}
use Rattle.attrrec.specs.Encode.{attr_pad, attr_length}
use Rattle.dirblock.specs.Record.{smallest_read, smallest_new}
use Rattle.inode.specs.Size.{size_in}
use Rattle.mapping.specs.Zones.{zone_start, place_of}
use Rattle.worked.specs.Table.{all_right, starred}

pub starred-right : all_right starred ≡ true
unfolding gap attr_pad attr_length smallest_read smallest_new put all first bit bit_at bits_are block_free first_free put_bits put_bits_at size_in zone_start place_of
starred-right = refl
