-- The invariant of `iterated::run_lm_loop`: what is left of the loop, from the set in hand, comes to what the whole loop comes to. Assumes nothing.
use Rattle.iterated.proofs.Laws.{Looping}
use Rattle.iterated.proofs.run_lm_loop.Given as goal

abbrev pub invariant-loop-i : goal.invariant-loop-i
invariant-loop-i l = Looping l.run l.options l.initial.set l.set l.w l.i l.lm
