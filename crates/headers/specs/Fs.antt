-- fs.h: the superblock and the cylinder group, each member with its C type in the header's order. Assumes nothing.
use Rattle.std.specs.Prelude.{ℕ}
use Rattle.headers.specs.Layout.{CType, struct, array, pointer, end, ◌∶◌⨾◌, int8, int16, int32, int64, uint8, uint32, uint64}

-- fs.h: FS_UFS2_MAGIC, CG_MAGIC, and SBLOCK_UFS2, the byte at which UFS2's superblock stands
abbrev pub FS_UFS2_MAGIC : ℕ
FS_UFS2_MAGIC = 0x19540119

abbrev pub CG_MAGIC : ℕ
CG_MAGIC = 0x090255

abbrev pub SBLOCK_UFS2 : ℕ
SBLOCK_UFS2 = 65536

-- fs.h: ufs_time_t and ufs2_daddr_t
abbrev pub ufs_time : CType
ufs_time = int64

abbrev pub ufs2_daddr : CType
ufs2_daddr = int64

-- struct csum: the counts of a group
unfoldable pub csum : CType
csum =
    struct (
    "cs_ndir" ∶ int32 ⨾
    "cs_nbfree" ∶ int32 ⨾
    "cs_nifree" ∶ int32 ⨾
    "cs_nffree" ∶ int32 ⨾
    end)

-- struct csum_total: the counts of the volume
unfoldable pub csum_total : CType
csum_total =
    struct (
    "cs_ndir" ∶ int64 ⨾
    "cs_nbfree" ∶ int64 ⨾
    "cs_nifree" ∶ int64 ⨾
    "cs_nffree" ∶ int64 ⨾
    "cs_numclusters" ∶ int64 ⨾
    "cs_spare" ∶ array int64 3 ⨾
    end)

-- struct fs, up to and with fs_magic
unfoldable pub fs : CType
unfolding csum csum_total
fs =
    struct (
    "fs_firstfield" ∶ int32 ⨾
    "fs_unused_1" ∶ int32 ⨾
    "fs_sblkno" ∶ int32 ⨾
    "fs_cblkno" ∶ int32 ⨾
    "fs_iblkno" ∶ int32 ⨾
    "fs_dblkno" ∶ int32 ⨾
    "fs_old_cgoffset" ∶ int32 ⨾
    "fs_old_cgmask" ∶ int32 ⨾
    "fs_old_time" ∶ int32 ⨾
    "fs_old_size" ∶ int32 ⨾
    "fs_old_dsize" ∶ int32 ⨾
    "fs_ncg" ∶ uint32 ⨾
    "fs_bsize" ∶ int32 ⨾
    "fs_fsize" ∶ int32 ⨾
    "fs_frag" ∶ int32 ⨾
    "fs_minfree" ∶ int32 ⨾
    "fs_old_rotdelay" ∶ int32 ⨾
    "fs_old_rps" ∶ int32 ⨾
    "fs_bmask" ∶ int32 ⨾
    "fs_fmask" ∶ int32 ⨾
    "fs_bshift" ∶ int32 ⨾
    "fs_fshift" ∶ int32 ⨾
    "fs_maxcontig" ∶ int32 ⨾
    "fs_maxbpg" ∶ int32 ⨾
    "fs_fragshift" ∶ int32 ⨾
    "fs_fsbtodb" ∶ int32 ⨾
    "fs_sbsize" ∶ int32 ⨾
    "fs_spare1" ∶ array int32 2 ⨾
    "fs_nindir" ∶ int32 ⨾
    "fs_inopb" ∶ uint32 ⨾
    "fs_old_nspf" ∶ int32 ⨾
    "fs_optim" ∶ int32 ⨾
    "fs_old_npsect" ∶ int32 ⨾
    "fs_old_interleave" ∶ int32 ⨾
    "fs_old_trackskew" ∶ int32 ⨾
    "fs_id" ∶ array int32 2 ⨾
    "fs_old_csaddr" ∶ int32 ⨾
    "fs_cssize" ∶ int32 ⨾
    "fs_cgsize" ∶ int32 ⨾
    "fs_spare2" ∶ int32 ⨾
    "fs_old_nsect" ∶ int32 ⨾
    "fs_old_spc" ∶ int32 ⨾
    "fs_old_ncyl" ∶ int32 ⨾
    "fs_old_cpg" ∶ int32 ⨾
    "fs_ipg" ∶ uint32 ⨾
    "fs_fpg" ∶ int32 ⨾
    "fs_old_cstotal" ∶ csum ⨾
    "fs_fmod" ∶ int8 ⨾
    "fs_clean" ∶ int8 ⨾
    "fs_ronly" ∶ int8 ⨾
    "fs_old_flags" ∶ int8 ⨾
    "fs_fsmnt" ∶ array uint8 468 ⨾
    "fs_volname" ∶ array uint8 32 ⨾
    "fs_swuid" ∶ uint64 ⨾
    "fs_pad" ∶ int32 ⨾
    "fs_cgrotor" ∶ int32 ⨾
    "fs_ocsp" ∶ array pointer 15 ⨾
    "fs_si" ∶ pointer ⨾
    "fs_old_cpc" ∶ int32 ⨾
    "fs_maxbsize" ∶ int32 ⨾
    "fs_unrefs" ∶ int64 ⨾
    "fs_providersize" ∶ int64 ⨾
    "fs_metaspace" ∶ int64 ⨾
    "fs_sparecon64" ∶ array int64 13 ⨾
    "fs_sblockactualloc" ∶ int64 ⨾
    "fs_sblockloc" ∶ int64 ⨾
    "fs_cstotal" ∶ csum_total ⨾
    "fs_time" ∶ ufs_time ⨾
    "fs_size" ∶ int64 ⨾
    "fs_dsize" ∶ int64 ⨾
    "fs_csaddr" ∶ ufs2_daddr ⨾
    "fs_pendingblocks" ∶ int64 ⨾
    "fs_pendinginodes" ∶ uint32 ⨾
    "fs_snapinum" ∶ array uint32 20 ⨾
    "fs_avgfilesize" ∶ uint32 ⨾
    "fs_avgfpdir" ∶ uint32 ⨾
    "fs_save_cgsize" ∶ int32 ⨾
    "fs_mtime" ∶ ufs_time ⨾
    "fs_sujfree" ∶ int32 ⨾
    "fs_sparecon32" ∶ array int32 21 ⨾
    "fs_ckhash" ∶ uint32 ⨾
    "fs_metackhash" ∶ uint32 ⨾
    "fs_flags" ∶ int32 ⨾
    "fs_contigsumsize" ∶ int32 ⨾
    "fs_maxsymlinklen" ∶ int32 ⨾
    "fs_old_inodefmt" ∶ int32 ⨾
    "fs_maxfilesize" ∶ uint64 ⨾
    "fs_qbmask" ∶ int64 ⨾
    "fs_qfmask" ∶ int64 ⨾
    "fs_state" ∶ int32 ⨾
    "fs_old_postblformat" ∶ int32 ⨾
    "fs_old_nrpos" ∶ int32 ⨾
    "fs_spare5" ∶ array int32 2 ⨾
    "fs_magic" ∶ int32 ⨾
    end)

-- struct cg, up to and with cg_sparecon64; cg_space, the room of the maps, follows it
unfoldable pub cg : CType
unfolding csum
cg =
    struct (
    "cg_firstfield" ∶ int32 ⨾
    "cg_magic" ∶ int32 ⨾
    "cg_old_time" ∶ int32 ⨾
    "cg_cgx" ∶ uint32 ⨾
    "cg_old_ncyl" ∶ int16 ⨾
    "cg_old_niblk" ∶ int16 ⨾
    "cg_ndblk" ∶ uint32 ⨾
    "cg_cs" ∶ csum ⨾
    "cg_rotor" ∶ uint32 ⨾
    "cg_frotor" ∶ uint32 ⨾
    "cg_irotor" ∶ uint32 ⨾
    "cg_frsum" ∶ array uint32 8 ⨾
    "cg_old_btotoff" ∶ int32 ⨾
    "cg_old_boff" ∶ int32 ⨾
    "cg_iusedoff" ∶ uint32 ⨾
    "cg_freeoff" ∶ uint32 ⨾
    "cg_nextfreeoff" ∶ uint32 ⨾
    "cg_clustersumoff" ∶ uint32 ⨾
    "cg_clusteroff" ∶ uint32 ⨾
    "cg_nclusterblks" ∶ uint32 ⨾
    "cg_niblk" ∶ uint32 ⨾
    "cg_initediblk" ∶ uint32 ⨾
    "cg_unrefs" ∶ uint32 ⨾
    "cg_sparecon32" ∶ array int32 1 ⨾
    "cg_ckhash" ∶ uint32 ⨾
    "cg_time" ∶ ufs_time ⨾
    "cg_sparecon64" ∶ array int64 3 ⨾
    end)
