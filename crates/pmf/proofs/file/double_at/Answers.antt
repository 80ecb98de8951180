-- `pmf::file::double_at` meets its contract. Assumes nothing.
use borrow.Author.Tests.{le-ltb}
use lib.Ieee.{of_bits}
use Rattle.pmf.specs.File.{double}
use Rattle.pmf.proofs.file.double_at.Goals as goal

pub returns-else-bits-lt9218868437227405312 : goal.returns-else-bits-lt9218868437227405312
unfolding double of_bits
returns-else-bits-lt9218868437227405312 c = rw (← c.u64_at-bits.ensures, le-ltb _ _ c.if-bits-lt9218868437227405312.false)
