-- 01's own numbers: every place, width and sign that it names of the six records, to be held against the layout of the headers. Assumes nothing.
use Rattle.std.specs.Prelude.{ℕ, Bool, true, false, ◌&&◌, List, [], ◌∷◌, ◌++◌, eqb}
use Rattle.std.proofs.Math.Option.{Option, none, some}
use Rattle.headers.specs.Layout.{CType, Designator, member, ◌‣◌, ◌!◌, Placed, placed, sizeof}
use Rattle.headers.specs.Fs.{fs, cg}
use Rattle.headers.specs.Dinode.{ufs2_dinode}
use Rattle.headers.specs.Dir.{direct}
use Rattle.headers.specs.Extattr.{extattr}

-- a member of a record, and what is said of it
pub record Row : Type 0 where
  pub of : CType
  pub name : Designator
  pub said : Placed

abbrev signed : Bool
signed = true

abbrev unsigned : Bool
unsigned = false

abbrev row : CType → Designator → ℕ → ℕ → Bool → Row
row t p at width sign = record { of = t; name = p; said = record { at = at; width = width; signed = sign } }

-- 01: "Superblock, 32-bit: sblkno 8, cblkno 12, .. magic 1372"
abbrev superblock : List Row
superblock =
    row fs (member "fs_sblkno") 8 4 signed ∷
    row fs (member "fs_cblkno") 12 4 signed ∷
    row fs (member "fs_iblkno") 16 4 signed ∷
    row fs (member "fs_dblkno") 20 4 signed ∷
    row fs (member "fs_ncg") 44 4 unsigned ∷
    row fs (member "fs_bsize") 48 4 signed ∷
    row fs (member "fs_fsize") 52 4 signed ∷
    row fs (member "fs_frag") 56 4 signed ∷
    row fs (member "fs_ipg") 184 4 unsigned ∷
    row fs (member "fs_fpg") 188 4 signed ∷
    row fs (member "fs_magic") 1372 4 signed ∷
    []

-- 01: "Totals, signed 64-bit: nbfree 1016, nifree 1024, nffree 1032"
abbrev totals : List Row
totals =
    row fs (member "fs_cstotal" ‣ "cs_nbfree") 1016 8 signed ∷
    row fs (member "fs_cstotal" ‣ "cs_nifree") 1024 8 signed ∷
    row fs (member "fs_cstotal" ‣ "cs_nffree") 1032 8 signed ∷
    []

-- 01: "Group record .. magic 4, ndblk 20, nbfree 28, nifree 32, nffree 36 (signed), iusedoff 92, freeoff 96"
abbrev group_record : List Row
group_record =
    row cg (member "cg_magic") 4 4 signed ∷
    row cg (member "cg_ndblk") 20 4 unsigned ∷
    row cg (member "cg_cs" ‣ "cs_nbfree") 28 4 signed ∷
    row cg (member "cg_cs" ‣ "cs_nifree") 32 4 signed ∷
    row cg (member "cg_cs" ‣ "cs_nffree") 36 4 signed ∷
    row cg (member "cg_iusedoff") 92 4 unsigned ∷
    row cg (member "cg_freeoff") 96 4 unsigned ∷
    []

-- 01: "Fields as in data.rs; addresses fill 112 to 231, 12 direct and 3 indirect"; data.rs has the numbers, dinode.h the signs
abbrev inode_record : List Row
inode_record =
    row ufs2_dinode (member "di_mode") 0 2 unsigned ∷
    row ufs2_dinode (member "di_nlink") 2 2 signed ∷
    row ufs2_dinode (member "di_uid") 4 4 unsigned ∷
    row ufs2_dinode (member "di_gid") 8 4 unsigned ∷
    row ufs2_dinode (member "di_blksize") 12 4 unsigned ∷
    row ufs2_dinode (member "di_size") 16 8 unsigned ∷
    row ufs2_dinode (member "di_blocks") 24 8 unsigned ∷
    row ufs2_dinode (member "di_atime") 32 8 signed ∷
    row ufs2_dinode (member "di_mtime") 40 8 signed ∷
    row ufs2_dinode (member "di_ctime") 48 8 signed ∷
    row ufs2_dinode (member "di_birthtime") 56 8 signed ∷
    row ufs2_dinode (member "di_mtimensec") 64 4 signed ∷
    row ufs2_dinode (member "di_atimensec") 68 4 signed ∷
    row ufs2_dinode (member "di_ctimensec") 72 4 signed ∷
    row ufs2_dinode (member "di_birthnsec") 76 4 signed ∷
    row ufs2_dinode (member "di_gen") 80 4 unsigned ∷
    row ufs2_dinode (member "di_kernflags") 84 4 unsigned ∷
    row ufs2_dinode (member "di_flags") 88 4 unsigned ∷
    row ufs2_dinode (member "di_extsize") 92 4 unsigned ∷
    row ufs2_dinode (member "di_extb") 96 16 signed ∷
    row ufs2_dinode (member "di_db") 112 96 signed ∷
    row ufs2_dinode (member "di_ib") 208 24 signed ∷
    row ufs2_dinode (member "di_modrev") 232 8 unsigned ∷
    row ufs2_dinode (member "di_freelink") 240 4 unsigned ∷
    row ufs2_dinode (member "di_ckhash") 244 4 unsigned ∷
    row ufs2_dinode (member "di_spare") 248 8 unsigned ∷
    row ufs2_dinode (member "di_extb" ! 1) 104 8 signed ∷
    row ufs2_dinode (member "di_db" ! 0) 112 8 signed ∷
    row ufs2_dinode (member "di_db" ! 11) 200 8 signed ∷
    row ufs2_dinode (member "di_ib" ! 0) 208 8 signed ∷
    row ufs2_dinode (member "di_ib" ! 2) 224 8 signed ∷
    []

-- 01: "Record: inode u32, length u16, type u8, name length u8, name"
abbrev directory_record : List Row
directory_record =
    row direct (member "d_ino") 0 4 unsigned ∷
    row direct (member "d_reclen") 4 2 unsigned ∷
    row direct (member "d_type") 6 1 unsigned ∷
    row direct (member "d_namlen") 7 1 unsigned ∷
    row direct (member "d_name") 8 256 unsigned ∷
    []

-- 01: "Attributes: length u32, namespace, pad, name length (up to 64), name"
abbrev attribute_header : List Row
attribute_header =
    row extattr (member "ea_length") 0 4 unsigned ∷
    row extattr (member "ea_namespace") 4 1 unsigned ∷
    row extattr (member "ea_contentpadlen") 5 1 unsigned ∷
    row extattr (member "ea_namelength") 6 1 unsigned ∷
    row extattr (member "ea_name") 7 1 unsigned ∷
    []

-- 01's table
unfoldable pub named : List Row
named = superblock ++ totals ++ group_record ++ inode_record ++ directory_record ++ attribute_header

-- a record and its size in bytes
pub record Whole : Type 0 where
  pub of : CType
  pub size : ℕ

-- 01: "66,912" is 65,536 and the superblock, "iusedoff >= 168", "ipg * 256"; the headers: the longest directory record, an attribute's header with a byte of its name
unfoldable pub wholes : List Whole
wholes =
    record { of = fs; size = 1376 } ∷
    record { of = cg; size = 168 } ∷
    record { of = ufs2_dinode; size = 256 } ∷
    record { of = direct; size = 264 } ∷
    record { of = extattr; size = 8 } ∷
    []

-- the same sign
abbrev pub same : Bool → Bool → Bool
same true true = true
same true false = false
same false true = false
same false false = true

-- what is said is what the layout says; a name that is not there is never right
unfoldable pub agrees : Option Placed → Placed → Bool
agrees none q = false
agrees (some p) q = eqb p.at q.at && eqb p.width q.width && same p.signed q.signed

-- a row against the headers
unfoldable pub row_right : Row → Bool
unfolding placed agrees fs cg ufs2_dinode direct extattr
row_right r = agrees (placed r.of r.name) r.said

-- all rows, and all sizes
unfoldable pub rows_right : List Row → Bool
unfolding row_right
rows_right [] = true
rows_right (r ∷ rs) = row_right r && rows_right rs

unfoldable pub sizes_right : List Whole → Bool
unfolding sizeof fs cg ufs2_dinode direct extattr
sizes_right [] = true
sizes_right (w ∷ ws) = eqb (sizeof w.of) w.size && sizes_right ws
