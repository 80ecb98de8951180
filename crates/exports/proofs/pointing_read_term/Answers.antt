-- `exports::pointing_read_term` meets its contract. Assumes nothing.
use Rattle.exports.proofs.Few.{few}
use Rattle.exports.proofs.pointing_read_term.Goals as goal

pub term_answer-requires : goal.term_answer-requires
term_answer-requires c = rw c.read_term.ensures (few _)
