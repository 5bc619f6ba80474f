-- `kind_of` meets its contract. Assumes nothing.
use borrow.Author.Rules.{rules}
use Rattle.inode.proofs.KindLaws.{kind-named, kind-rest}
use Rattle.inode.specs.Kind.{type_number}
use Rattle.inode.specs.declared.InodeType.TheVariants.{NamedPipe, CharDevice, Directory, BlockDevice, RegularFile, Symlink, Socket}
use Rattle.inode.proofs.kind_of.Goals as goal

pub returns-in-1 : goal.returns-in-1
unfolding type_number
returns-in-1 c = kind-named NamedPipe c.in-1.is c.type_of.ensures

pub returns-in-2 : goal.returns-in-2
unfolding type_number
returns-in-2 c = kind-named CharDevice c.in-2.is c.type_of.ensures

pub returns-in-4 : goal.returns-in-4
unfolding type_number
returns-in-4 c = kind-named Directory c.in-4.is c.type_of.ensures

pub returns-in-6 : goal.returns-in-6
unfolding type_number
returns-in-6 c = kind-named BlockDevice c.in-6.is c.type_of.ensures

pub returns-in-8 : goal.returns-in-8
unfolding type_number
returns-in-8 c = kind-named RegularFile c.in-8.is c.type_of.ensures

pub returns-in-10 : goal.returns-in-10
unfolding type_number
returns-in-10 c = kind-named Symlink c.in-10.is c.type_of.ensures

pub returns-in-12 : goal.returns-in-12
unfolding type_number
returns-in-12 c = kind-named Socket c.in-12.is c.type_of.ensures

pub returns-in_default : goal.returns-in_default
returns-in_default c = kind-rest c.in_default.in_default-own.rest c.type_of.ensures
