-- What a change does to the superblock's totals. Assumes nothing: this is a definition.
use Rattle.std.specs.Prelude.{◌+◌, ◌%◌, ◌^◌}
use Rattle.volume.specs.declared.Totals.{Totals}

-- 01: "the totals record is lent, changed where it stands"; "Totals, signed 64-bit", so each sum is taken modulo 2^64
abbrev pub changed : Totals → Totals → Totals
changed t d = record {
  nbfree = (t.nbfree + d.nbfree) % 2 ^ 64;
  nifree = (t.nifree + d.nifree) % 2 ^ 64;
  nffree = (t.nffree + d.nffree) % 2 ^ 64;
}
