-- Of a loop that keeps by the rule, the answer is on the list of the sets tried, and no set of the list has a score below the answer's,
-- whatever the scores are: a NaN and an infinity too. Assumes nothing.
use Prim.Native.Nat.{ℕ, zero, suc}
use mathlib.Core.Path.{refl, sym, subst}
use mathlib.Core.Bool.{Bool, true, false, not, cond}
use mathlib.Core.List.Memᴰ
use mathlib.Core.List.{List, [], ◌∷◌, ◌++◌, Memᴰ}
use lib.Dec.{T, not_T, T_not}
use lib.Ieee.{Float, lt, le}
use Rattle.float.proofs.Order.{lt_trans_all, lt_le_all, lt_irrefl_all, not_le→not_lt}
use Rattle.best.specs.Trials.{Trials, after, proposed, tried, answer, Keeps}

-- whatever is not below c is not below b
abbrev Under : Float → Float → Type 0
Under b c = (x : Float) → T (not (lt x c)) → T (not (lt x b))

under_lt : (b c : Float) → T (lt b c) → Under b c
under_lt b c h x n = not_T (lt x b) (λ (t : T (lt x b)). T_not (lt x c) n (lt_trans_all x b c t h))

under_le : (b c : Float) → T (le b c) → Under b c
under_le b c h x n = not_T (lt x b) (λ (t : T (lt x b)). T_not (lt x c) n (lt_le_all x b c t h))

-- ---- lists of sets, and the set that is kept of two

module _ {A : Type 0} (score : A → Float) where
  -- no set of the list has a score below c
  abbrev pub NoneBelow : Float → List A → Type 0
  NoneBelow c [] = Unit {0}
  NoneBelow c (x ∷ xs) = T (not (lt (score x) c)) × NoneBelow c xs

  pub none_below : (c : Float) (x : A) (xs : List A) → NoneBelow c xs → Memᴰ x xs → T (not (lt (score x) c))
  none_below c x xs h (Memᴰ.head {x = y} e) = subst (λ (z : A). T (not (lt (score z) c))) (sym e) h.0
  none_below c x xs h (Memᴰ.tail {xs = ys} m) = none_below c x ys h.1 m

  lower : (b c : Float) (xs : List A) → Under b c → NoneBelow c xs → NoneBelow b xs
  lower b c [] u h = tt
  lower b c (x ∷ xs) u h = (u (score x) h.0, lower b c xs u h.1)

  join : (c : Float) (xs ys : List A) → NoneBelow c xs → NoneBelow c ys → NoneBelow c (xs ++ ys)
  join c [] ys h k = k
  join c (x ∷ xs) ys h k = (h.0, join c xs ys h.1 k)

  -- z is kept of x, which is proposed, and a, which is in hand: it is not above a, and x is not below it
  Kept : A → A → A → Type 0
  Kept z x a = Under (score z) (score a) × T (not (lt (score x) (score z)))

  kept-lt : (b : Bool) (x a : A) → (T b → T (lt (score x) (score a))) → (T (not b) → T (not (lt (score x) (score a)))) → Kept (cond b x a) x a
  unfolding Kept
  kept-lt true x a h k = (under_lt (score x) (score a) (h tt), lt_irrefl_all (score x))
  kept-lt false x a h k = (λ y n. n, k tt)

  kept-le : (b : Bool) (x a : A) → (T b → T (le (score x) (score a))) → (T (not b) → T (not (le (score x) (score a)))) → Kept (cond b x a) x a
  unfolding Kept
  kept-le true x a h k = (under_le (score x) (score a) (h tt), lt_irrefl_all (score x))
  kept-le false x a h k = (λ y n. n, not_le→not_lt (score x) (score a) (k tt))

either : {A : Type 0} (b : Bool) (x a : A) (xs : List A) → Memᴰ (cond b x a) (a ∷ x ∷ xs)
either true x a xs = Memᴰ.tail (Memᴰ.head refl)
either false x a xs = Memᴰ.head refl

-- ---- the loop

module _ {L A : Type 0} (p : Trials L A) (Ok : L → Type 0) (rule : Keeps p Ok) where
  turn-kept : (s : L) → Ok s → Kept p.score (p.set (p.turn s)) (p.propose s) (p.set s)
  turn-kept s ok =
      let x = p.propose s in
      let a = p.set s in
      subst (λ (z : A). Kept p.score z x a) (sym (rule.keeps s ok))
      (kept-lt p.score (lt (p.score x) (p.score a)) x a (λ t. t) (λ t. t))

  turn-listed : (s : L) → Ok s → (xs : List A) → Memᴰ (p.set (p.turn s)) (p.set s ∷ p.propose s ∷ xs)
  turn-listed s ok xs =
      Memᴰ.cast (rule.keeps s ok) (either (lt (p.score (p.propose s)) (p.score (p.set s))) (p.propose s) (p.set s) xs)

  -- a turn from a, which proposes x and comes to t, and the turns from there, which propose xs and come to r
  one_more : (b : Bool) (x a : A) (t r : L) (xs : List A) → Kept p.score (p.set t) x a
      → Under (p.score (p.set r)) (p.score (p.set t)) × NoneBelow p.score (p.score (p.set r)) xs
      → Under (p.score (p.set (cond b t r))) (p.score a) × NoneBelow p.score (p.score (p.set (cond b t r))) (x ∷ cond b [] xs)
  unfolding Kept
  one_more true x a t r xs h g = (h.0, (h.1, tt))
  one_more false x a t r xs h g = (λ y n. g.0 y (h.0 y n), (g.0 (p.score x) h.1, g.1))

  -- the set in hand at the end is not above that at the start, and none that was proposed is below it
  loop-best : (k : ℕ) (s : L) → Ok s
      → Under (p.score (p.set (after p k s))) (p.score (p.set s)) × NoneBelow p.score (p.score (p.set (after p k s))) (proposed p k s)
  unfolding after proposed Kept
  loop-best zero s ok = (λ x n. n, tt)
  loop-best (suc k) s ok =
      let t = p.turn s in
      one_more (p.ends s) (p.propose s) (p.set s) t (after p k t) (proposed p k t) (turn-kept s ok) (loop-best k t (rule.on s ok))

  loop-listed : (k : ℕ) (s : L) → Ok s → Memᴰ (p.set (after p k s)) (p.set s ∷ proposed p k s)
  unfolding after proposed
  loop-listed zero s ok = Memᴰ.head refl
  loop-listed (suc k) s ok = go (p.ends s) (loop-listed k (p.turn s) (rule.on s ok))
    where
      go : (b : Bool) → Memᴰ (p.set (after p k (p.turn s))) (p.set (p.turn s) ∷ proposed p k (p.turn s))
          → Memᴰ (p.set (cond b (p.turn s) (after p k (p.turn s)))) (p.set s ∷ p.propose s ∷ cond b [] (proposed p k (p.turn s)))
      go true m = turn-listed s ok []
      go false (Memᴰ.head e) = Memᴰ.cast e (turn-listed s ok (proposed p k (p.turn s)))
      go false (Memᴰ.tail m) = Memᴰ.tail (Memᴰ.tail m)

  -- ---- and the trial at its end

  pub answer-best : (k : ℕ) (s : L) → Ok s → NoneBelow p.score (p.score (answer p k s)) (tried p k s)
  unfolding answer tried Kept
  answer-best k s ok =
      let f = p.score in
      let e = after p k s in
      let x = p.last e in
      let a = p.set e in
      let b = le (f x) (f a) in
      let q = f (cond b x a) in
      let (u, l) = kept-le f b x a (λ t. t) (λ t. t) in
      let (v, w) = loop-best k s ok in
      let start = f (p.set s) in
      (u start (v start (lt_irrefl_all start)), join f q (proposed p k s) (x ∷ []) (lower f q (f a) (proposed p k s) u w) (l, tt))

  pub answer-listed : (k : ℕ) (s : L) → Ok s → Memᴰ (answer p k s) (tried p k s)
  unfolding answer tried
  answer-listed k s ok = go (le (p.score (p.last (after p k s))) (p.score (p.set (after p k s))))
    where
      go : (b : Bool)
          → Memᴰ (cond b (p.last (after p k s)) (p.set (after p k s))) (p.set s ∷ (proposed p k s ++ (p.last (after p k s) ∷ [])))
      go true = Memᴰ.tail (Memᴰ.append_right (proposed p k s) (Memᴰ.head refl))
      go false = Memᴰ.append_left (p.last (after p k s) ∷ []) (loop-listed k s ok)
