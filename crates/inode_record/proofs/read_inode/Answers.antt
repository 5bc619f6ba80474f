-- `read_inode` meets its contract. Assumes nothing.
use native.Mathlib.Omega.{arith}
use Rattle.inode_record.specs.Record.{inode_of}
use Rattle.inode_record.proofs.read_inode.Goals as goal

pub overflow_add-at-8 : goal.overflow_add-at-8
overflow_add-at-8 c = omega (arith, c.requires, c.well_formed, c.ranges)

pub overflow_add-at-9 : goal.overflow_add-at-9
overflow_add-at-9 c = omega (arith, c.requires, c.well_formed, c.ranges)

pub overflow_add-at-10 : goal.overflow_add-at-10
overflow_add-at-10 c = omega (arith, c.requires, c.well_formed, c.ranges)

pub overflow_add-at-11 : goal.overflow_add-at-11
overflow_add-at-11 c = omega (arith, c.requires, c.well_formed, c.ranges)

pub get-requires-11 : goal.get-requires-11
get-requires-11 c = omega (arith, c.requires, c.well_formed, c.ranges)

pub overflow_add-at-12 : goal.overflow_add-at-12
overflow_add-at-12 c = omega (arith, c.requires, c.well_formed, c.ranges)

pub get-requires-12 : goal.get-requires-12
get-requires-12 c = omega (arith, c.requires, c.well_formed, c.ranges)

pub overflow_add-at-13 : goal.overflow_add-at-13
overflow_add-at-13 c = omega (arith, c.requires, c.well_formed, c.ranges)

pub get-requires-13 : goal.get-requires-13
get-requires-13 c = omega (arith, c.requires, c.well_formed, c.ranges)

pub overflow_add-at-14 : goal.overflow_add-at-14
overflow_add-at-14 c = omega (arith, c.requires, c.well_formed, c.ranges)

pub get-requires-14 : goal.get-requires-14
get-requires-14 c = omega (arith, c.requires, c.well_formed, c.ranges)

pub returns : goal.returns
unfolding inode_of
returns c =
    λ i. record {
      mode = c.get.ensures i;
      nlink = c.get-2.ensures i;
      uid = c.get-3.ensures i;
      gid = c.get-4.ensures i;
      blksize = c.get-5.ensures i;
      size = c.get-6.ensures i;
      blocks = c.get-7.ensures i;
      times = c.read_times-times.ensures i;
      generation = c.get-8.ensures i;
      kernflags = c.get-9.ensures i;
      flags = c.get-10.ensures i;
      extsize = c.get-11.ensures i;
      extb = c.all_extb-extb.ensures i;
      direct = c.all_direct-direct.ensures i;
      indirect = c.all_indirect-indirect.ensures i;
      modrev = c.get-12.ensures i;
      ignored = c.get-13.ensures i;
      ckhash = c.get-14.ensures i;
      spare = c.all_spare-spare.ensures i;
    }
