-- 01, "Inodes and mapping": the zones of a file's block indexes, over the number p of addresses in a list. Assumes nothing: these are definitions.
use Rattle.std.specs.Prelude.{List, [], ◌∷◌, ℕ, zero, suc, ◌+◌, ◌-◌, ◌/◌, ◌%◌, ◌^◌, ltb}
use Rattle.inode.specs.Size.{pick}
use Rattle.mapping.specs.declared.Place.{Place}
use Rattle.mapping.specs.declared.Place.TheVariants.{Under, Past}

-- "the zones begin at 0, 12, 12 + p, 12 + p + p²"
unfoldable pub zone_start : ℕ → ℕ → ℕ
zone_start p zero = 0
zone_start p (suc zero) = 12
zone_start p (suc (suc l)) = zone_start p (suc l) + p ^ suc l

-- "and end p³ later"
abbrev pub zones_end : ℕ → ℕ
zones_end p = zone_start p 4

-- where an index leads: to one of the 15 addresses, so many lists above its block, and the place under that address
unfoldable pub place_of : ℕ → ℕ → Place
place_of p i =
    pick (ltb i (zone_start p 1)) (Under i 0 (record { 0 = 0 }))
    (pick (ltb i (zone_start p 2)) (Under 12 1 (record { 0 = i - zone_start p 1 }))
    (pick (ltb i (zone_start p 3)) (Under 13 2 (record { 0 = i - zone_start p 2 }))
    (pick (ltb i (zone_start p 4)) (Under 14 3 (record { 0 = i - zone_start p 3 }))
    Past)))

-- the positions in the lists on the way down, the highest list's first
abbrev pub positions : ℕ → ℕ → ℕ → List ℕ
positions p zero x = []
positions p (suc l) x = x / p ^ l ∷ positions p l (x % p ^ l)
