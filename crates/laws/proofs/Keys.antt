-- Keys in lists: the tests say what is in a list, what two lists share, and where it first stands; keys new to a list and to one another.
-- Assumes nothing.
use Prim.Native.Nat.{ℕ, ◌+◌}
use mathlib.Core.Path.{◌≡◌, refl, sym, ap, subst, ◌∙◌}
use mathlib.Core.Logic.{◌⊎◌, inl, inr, ⊎_elim}
use mathlib.Core.List.{List, [], ◌∷◌, ◌++◌, append_assoc}
use mathlib.Core.Bool.{Bool, true, false, ◌||◌, false≢true, true≢false}
use native.Mathlib.Omega.{arith}
use borrow.Author.Tests.{eqb-true, eq-eqb}
use lib.Dec.{eqb}
use lib.ListN.{length}
use Rattle.layout.specs.Rows.{member}
use Rattle.rules.specs.Growth.{keys}
use Rattle.operations.specs.Joining.{shares, shared_at}
use Rattle.laws.specs.Meets.{all_keys}
use Rattle.laws.specs.Fits.{Fresh}
use Rattle.laws.specs.Joinable.{In, Apart, FirstShared}
use Rattle.laws.proofs.Sound.{keys_join}

-- ---- what is in a list
pub in_join : (k : ℕ) (xs ys : List ℕ) → In k (xs ++ ys) → In k xs ⊎ In k ys
unfolding In
in_join k [] ys i = inr i
in_join k (x ∷ xs) ys (inl e) = inl (inl e)
in_join k (x ∷ xs) ys (inr i) = ⊎_elim (λ j. inl (inr j)) (λ j. inr j) (in_join k xs ys i)

pub in_left : (k : ℕ) (xs ys : List ℕ) → In k xs → In k (xs ++ ys)
unfolding In
in_left k [] ys i = absurd i
in_left k (x ∷ xs) ys (inl e) = inl e
in_left k (x ∷ xs) ys (inr i) = inr (in_left k xs ys i)

pub in_right : (k : ℕ) (xs ys : List ℕ) → In k ys → In k (xs ++ ys)
unfolding In
in_right k [] ys i = i
in_right k (x ∷ xs) ys i = inr (in_right k xs ys i)

-- the test says so
or_cases : (a b : Bool) → a || b ≡ true → (a ≡ true) ⊎ (b ≡ true)
or_cases true b e = inl refl
or_cases false b e = inr e

or_true : (a b : Bool) → b ≡ true → a || b ≡ true
or_true true b e = refl
or_true false b e = e

or_neither : (a b : Bool) → a || b ≡ false → (a ≡ false) × (b ≡ false)
or_neither true b e = absurd (true≢false e)
or_neither false b e = (refl, e)

or_none : (a b : Bool) → a ≡ false → b ≡ false → a || b ≡ false
or_none a b p q = rw (p, q)

pub found : (k : ℕ) (l : List ℕ) → member k l ≡ true → In k l
unfolding In member
found k [] e = absurd (false≢true e)
found k (x ∷ l) e = ⊎_elim (λ p. inl (eqb-true k x p)) (λ p. inr (found k l p)) (or_cases (eqb k x) (member k l) e)

pub finds : (k : ℕ) (l : List ℕ) → In k l → member k l ≡ true
unfolding In member
finds k [] i = absurd i
finds k (x ∷ l) (inl e) = rw (eq-eqb k x e)
finds k (x ∷ l) (inr i) = or_true (eqb k x) (member k l) (finds k l i)

pub absent : (k : ℕ) (l : List ℕ) → member k l ≡ false → In k l → ⊥
absent k l e i = true≢false (sym (finds k l i) ∙ e)

pub lacks : (k : ℕ) (l : List ℕ) → (In k l → ⊥) → member k l ≡ false
lacks k l h = go (member k l) refl
  where
    go : (b : Bool) → member k l ≡ b → b ≡ false
    go true e = absurd (h (found k l e))
    go false e = refl

-- ---- what two lists share
pub record Shared (ks l : List ℕ) : Type 0 where
  pub key : ℕ
  pub first : In key ks
  pub second : In key l

pub shared : (ks l : List ℕ) → shares ks l ≡ true → Shared ks l
unfolding shares In
shared ks [] e = absurd (false≢true e)
shared ks (k ∷ l) e =
    ⊎_elim (λ p. record { key = k; first = found k ks p; second = inl refl })
    (λ p. let v = shared ks l p in record { key = v.key; first = v.first; second = inr v.second })
    (or_cases (member k ks) (shares ks l) e)

pub not_shared : (ks l : List ℕ) → shares ks l ≡ false → Apart ks l
unfolding shares In
not_shared ks [] e j i i' = i'
not_shared ks (k ∷ l) e j i (inl p) = absent k ks (or_neither (member k ks) (shares ks l) e).0 (subst (λ (x : ℕ). In x ks) p i)
not_shared ks (k ∷ l) e j i (inr q) = not_shared ks l (or_neither (member k ks) (shares ks l) e).1 j i q

pub shares_it : (k : ℕ) (ks l : List ℕ) → In k ks → In k l → shares ks l ≡ true
unfolding shares In
shares_it k ks [] i j = absurd j
shares_it k ks (x ∷ l) i (inl e) = rw (finds x ks (subst (λ (n : ℕ). In n ks) e i))
shares_it k ks (x ∷ l) i (inr j) = or_true (member x ks) (shares ks l) (shares_it k ks l i j)

pub shares_none : (ks l : List ℕ) → Apart ks l → shares ks l ≡ false
shares_none ks l h = go (shares ks l) refl
  where
    go : (b : Bool) → shares ks l ≡ b → b ≡ false
    go true e = let v = shared ks l e in absurd (h v.key v.first v.second)
    go false e = refl

-- ---- the first record that brings a key of a list
shares_join : (ks xs ys : List ℕ) → shares ks xs ≡ false → shares ks (xs ++ ys) ≡ true → shares ks ys ≡ true
unfolding shares
shares_join ks [] ys e h = h
shares_join ks (x ∷ xs) ys e h =
    let n = or_neither (member x ks) (shares ks xs) e in
    shares_join ks xs ys n.1 (rw n.0 at h)

-- i records stand before the list, j of the list before the one
pub record FoundAt (ks : List ℕ) (i : ℕ) (rs : List (List ℕ)) : Type 0 where
  pub place : ℕ
  pub found : FirstShared ks rs place
  pub told : shared_at i ks rs ≡ i + place + 1

found_here : (ks : List ℕ) (i : ℕ) (r : List ℕ) (rs : List (List ℕ)) → shares ks (keys r) ≡ true → FoundAt ks i (r ∷ rs)
unfolding all_keys shared_at In
found_here ks i r rs e =
    let v = shared ks (keys r) e in
    let n : i + 1 ≡ i + 0 + 1 = omega arith in
    record {
      place = 0;
      found = record { before = []; here = r; behind = rs; whole = refl; place = refl; none = λ k x y. y; key = v.key; there = v.first; brought = v.second };
      told = rw e n;
    }

found_later : (ks : List ℕ) (i : ℕ) (r : List ℕ) (rs : List (List ℕ)) → shares ks (keys r) ≡ false → FoundAt ks (i + 1) rs → FoundAt ks i (r ∷ rs)
unfolding all_keys shared_at
found_later ks i r rs e v =
    let f = v.found in
    let n : shared_at (i + 1) ks rs ≡ i + (v.place + 1) + 1 = omega (arith, v.told) in
    record {
      place = v.place + 1;
      found = record {
        before = r ∷ f.before;
        here = f.here;
        behind = f.behind;
        whole = ap (λ (x : List (List ℕ)). r ∷ x) f.whole;
        place = omega (arith, f.place);
        none = λ k x y. ⊎_elim (not_shared ks (keys r) e k x) (f.none k x) (in_join k (keys r) (all_keys f.before) y);
        key = f.key;
        there = f.there;
        brought = f.brought;
      };
      told = rw e n;
    }

pub first_shared : (ks : List ℕ) (i : ℕ) (rs : List (List ℕ)) → shares ks (all_keys rs) ≡ true → FoundAt ks i rs
unfolding all_keys
first_shared ks i [] e = absurd (false≢true (unfold shares in e))
first_shared ks i (r ∷ rs) e = go (shares ks (keys r)) refl (λ p. first_shared ks (i + 1) rs p)
  where
    go : (b : Bool) → shares ks (keys r) ≡ b → (shares ks (all_keys rs) ≡ true → FoundAt ks (i + 1) rs) → FoundAt ks i (r ∷ rs)
    go true p ih = found_here ks i r rs p
    go false p ih = found_later ks i r rs p (ih (shares_join ks (keys r) (all_keys rs) p e))

-- and there is no other
at_place : (ks : List ℕ) (i k : ℕ) (before : List (List ℕ)) (r : List ℕ) (behind : List (List ℕ)) → Apart ks (all_keys before) → In k ks → In k (keys r)
    → shared_at i ks (before ++ (r ∷ behind)) ≡ i + length before + 1
unfolding shared_at all_keys
at_place ks i k [] r behind n x y = rw (shares_it k ks (keys r) x y) (omega arith)
at_place ks i k (q ∷ before) r behind n x y =
    let new = shares_none ks (keys q) (λ j p o. n j p (in_left j (keys q) (all_keys before) o)) in
    let rest = at_place ks (i + 1) k before r behind (λ j p o. n j p (in_right j (keys q) (all_keys before) o)) x y in
    rw new (omega (arith, rest))

pub told_place : (ks : List ℕ) (rs : List (List ℕ)) (i : ℕ) → FirstShared ks rs i → shared_at 0 ks rs ≡ i + 1
told_place ks rs i f =
    let e = at_place ks 0 f.key f.before f.here f.behind f.none f.there f.brought in
    ap (shared_at 0 ks) f.whole ∙ omega (arith, e, f.place)

pub told_shared : (ks : List ℕ) (rs : List (List ℕ)) (i : ℕ) → FirstShared ks rs i → shares ks (all_keys rs) ≡ true
unfolding all_keys
told_shared ks rs i f =
    let here : In f.key (all_keys (f.before ++ (f.here ∷ f.behind))) =
    rw (keys_join f.before (f.here ∷ f.behind)) (in_right f.key (all_keys f.before) (all_keys (f.here ∷ f.behind)) (in_left f.key (keys f.here) (all_keys f.behind) f.brought)) in
    shares_it f.key ks (all_keys rs) f.there (subst (λ (x : List (List ℕ)). In f.key (all_keys x)) (sym f.whole) here)

-- ---- keys new to a list and to one another
pub fresh_behind : (ks m l : List ℕ) → Apart ks l → Fresh m l → Fresh (ks ++ m) l
unfolding Fresh In
fresh_behind ks m [] d f = tt
fresh_behind ks m (k ∷ l) d f =
    let new : In k (ks ++ m) → ⊥ = λ i. ⊎_elim (λ j. d k j (inl refl)) (absent k m f.0) (in_join k ks m i) in
    (lacks k (ks ++ m) new, rw append_assoc (fresh_behind ks (m ++ (k ∷ [])) l (λ j x y. d j x (inr y)) f.1))

pub fresh_alone : (ks m l : List ℕ) → Fresh (ks ++ m) l → Fresh m l
unfolding Fresh
fresh_alone ks m [] f = tt
fresh_alone ks m (k ∷ l) f = (lacks k m (λ i. absent k (ks ++ m) f.0 (in_right k ks m i)), fresh_alone ks (m ++ (k ∷ [])) l (rw append_assoc at f.1))

pub fresh_apart : (ks m l : List ℕ) → Fresh (ks ++ m) l → Apart ks l
unfolding Fresh In
fresh_apart ks m [] f j x y = y
fresh_apart ks m (k ∷ l) f j x (inl e) = absent k (ks ++ m) f.0 (in_left k ks m (subst (λ (n : ℕ). In n ks) e x))
fresh_apart ks m (k ∷ l) f j x (inr y) = fresh_apart ks (m ++ (k ∷ [])) l (rw append_assoc at f.1) j x y
