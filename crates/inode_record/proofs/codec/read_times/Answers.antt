-- `codec::read_times` meets its contract. Assumes nothing.
use Rattle.inode_record.specs.Record.{times_of}
use Rattle.inode_record.proofs.codec.read_times.Goals as goal

pub returns : goal.returns
unfolding times_of
returns c =
    λ i. record {
      atime = c.get.ensures i;
      mtime = c.get-2.ensures i;
      ctime = c.get-3.ensures i;
      birthtime = c.get-4.ensures i;
      mtimensec = c.get-5.ensures i;
      atimensec = c.get-6.ensures i;
      ctimensec = c.get-7.ensures i;
      birthnsec = c.get-8.ensures i;
    }
