-- A loop of trials, each of which proposes a set, with one more trial at its end. `tried` lists all the sets that come up, and `answer` is
-- the set that is kept. Definitions only.
use Rattle.std.specs.Prelude.{ℕ, zero, suc, ◌≡◌, Bool, cond, List, [], ◌∷◌, ◌++◌, Float}
use Rattle.std.specs.Float.Ieee.{lt, le}

-- L is the loop's state, which has the set in hand, and A a set. `ends` says whether the loop is left after the turn from a state, and
-- `last` what the trial at the end proposes.
pub record Trials (L A : Type 0) : Type 0 where
  pub score : A → Float
  pub set : L → A
  pub propose : L → A
  pub turn : L → L
  pub ends : L → Bool
  pub last : L → A

module _ {L A : Type 0} (p : Trials L A) where
  -- the state after at most k turns
  unfoldable pub after : ℕ → L → L
  after zero s = s
  after (suc k) s =
      let t = p.turn s in
      let rest = after k t in
      cond (p.ends s) t rest

  -- the sets that they propose, in order
  unfoldable pub proposed : ℕ → L → List A
  proposed zero s = []
  proposed (suc k) s =
      let rest = proposed k (p.turn s) in
      p.propose s ∷ cond (p.ends s) [] rest

  -- the set at the start, those, and that of the last trial
  unfoldable pub tried : ℕ → L → List A
  tried k s = p.set s ∷ (proposed k s ++ (p.last (after k s) ∷ []))

  -- the last trial is kept where it is not above
  unfoldable pub answer : ℕ → L → A
  answer k s =
      let e = after k s in
      cond (le (p.score (p.last e)) (p.score (p.set e))) (p.last e) (p.set e)

  -- the rule of the loop, at each state that it comes to: a turn keeps what it proposes where that has a score below the set in hand, and
  -- else the set in hand
  pub record Keeps (Ok : L → Type 0) : Type 0 where
    pub on : (s : L) → Ok s → Ok (p.turn s)
    pub keeps : (s : L) → Ok s
        → p.set (p.turn s) ≡ cond (lt (p.score (p.propose s)) (p.score (p.set s))) (p.propose s) (p.set s)
