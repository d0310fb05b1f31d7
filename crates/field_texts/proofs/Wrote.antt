-- Bytes written one behind the other over the start of a lent list.
-- Assumes nothing.
use Prim.Native.Nat.{ℕ, suc, ◌+◌, ◌-◌, ◌≤◌, ◌<◌}
use mathlib.Core.Path.{◌≡◌, refl, sym, ap, ap₂, subst, ◌∙◌}
use mathlib.Core.List.{List, [], ◌∷◌, ◌++◌, append-nil, append_assoc}
use native.Mathlib.Omega.{arith}
use native.Mathlib.Numerals.{add-one}
use borrow.Rule.Slice.PartMut.{put_mid, Post-is}
use lib.ListN.{length, get_or, take, drop, set, length-append, length-take, length-drop, drop_of_length-le}
use lib.Seq.{set_split, take_at, drop_at, drop-drop, drop-cons, take-suc, set_at, append_snoc, take_all}

-- out is d with a written over its start
pub record Wrote (a d out : List ℕ) : Type 0 where
  pub is : out ≡ a ++ drop (length a) d
  pub room : length a ≤ length d

pub wrote_none : (d : List ℕ) → Wrote [] d d
wrote_none d = record { is = refl; room = omega arith }

pub wrote_length : (a d out : List ℕ) → Wrote a d out → length out ≡ length d
wrote_length a d out h = ap length h.is ∙ simp (length-append, length-drop) (omega (arith, h.room))

-- the first at bytes of d are written, and are a
pub record Upto (at : ℕ) (a d out : List ℕ) : Type 0 where
  pub is : out ≡ a ++ drop at d
  pub here : length a ≡ at

pub nothing : (d : List ℕ) → Upto 0 [] d d
nothing d = record { is = refl; here = refl }

-- a call that wrote w over the start
pub begun : {n : ℕ} (w d : List ℕ) {out : List ℕ} → length w ≡ n → out ≡ w ++ drop n d → Upto n w d out
begun w d e q = record { is = q; here = e }

-- n bytes more, put behind them
pub some : {at : ℕ} (n : ℕ) {a d out after : List ℕ} (w : List ℕ) → Upto at a d out → length w ≡ n → after ≡ take at out ++ (w ++ drop (at + n) out) → Upto (at + n) (a ++ w) d after
some {at} n {a} {d} {out} {after} w h e q =
    let t : take at out ≡ a = ap (take at) h.is ∙ take_at a (drop at d) at h.here in
    let r : drop (at + n) out ≡ drop (at + n) d = sym (drop-drop n at out) ∙ ap (drop n) (ap (drop at) h.is ∙ drop_at a (drop at d) at h.here) ∙ drop-drop n at d in
    record {
      is = q ∙ ap₂ (λ (x y : List ℕ). x ++ (w ++ y)) t r ∙ sym (append_assoc a w (drop (at + n) d));
      here = length-append a w ∙ ap₂ ◌+◌ h.here e;
    }

-- what a contract says of all of them
pub done : {n : ℕ} {a d out : List ℕ} (w : List ℕ) → a ≡ w → Upto n a d out → out ≡ w ++ drop n d
done {n} {a} {d} {out} w e h = h.is ∙ ap (λ (x : List ℕ). x ++ drop n d) e

-- w put directly behind what is already written
pub more : (a d out w : List ℕ) (at n : ℕ) → Wrote a d out → at ≡ length a → n ≡ length w → length a + length w ≤ length d
    → Wrote (a ++ w) d (take at out ++ (w ++ drop (at + n) out))
more a d out w at n h e m l =
    let f : Upto at a d out = record { is = h.is ∙ ap (λ (x : ℕ). a ++ drop x d) (sym e); here = sym e } in
    let u = some n w f (sym m) refl in
    record { is = u.is ∙ ap (λ (x : ℕ). (a ++ w) ++ drop x d) (sym u.here); room = rw length-append l }

-- the same for what a call says that it left
pub put_behind : (a d out w after : List ℕ) (at n : ℕ) → Wrote a d out → at ≡ length a → n ≡ length w → length a + length w ≤ length d
    → after ≡ take at out ++ (w ++ drop (at + n) out) → Wrote (a ++ w) d after
put_behind a d out w after at n h e m l q = subst (Wrote (a ++ w) d) (sym q) (more a d out w at n h e m l)

-- a part out[at..at + n] that was lent, and came back as f says of its length
pub part_put : (f : ℕ → List ℕ) (out last : List ℕ) (at n : ℕ) → at + n ≤ length out → last ≡ f (length (take (at + n - at) (drop at out)))
    → put_mid at (at + n - at) out last ≡ take at out ++ (f n ++ drop (at + n) out)
part_put f out last at n h q =
    let l : length (take (at + n - at) (drop at out)) ≡ n = length-take (at + n - at) (drop at out) ∙ simp length-drop (omega arith) in
    ap₂ (λ (x y : List ℕ). take at out ++ (x ++ y)) (q ∙ ap f l) (Post-is at (at + n) out (omega arith))

-- the rest of a list from at on, as a loan has it, and the list when the loan is back
pub tail_part : (at : ℕ) (out : List ℕ) → take (length out - at) (drop at out) ≡ drop at out
tail_part at out = take_all (length out - at) (drop at out) (rw length-drop (omega arith))

pub room_behind : (out : List ℕ) (at n : ℕ) → at + n ≤ length out → n ≤ length (take (length out - at) (drop at out))
room_behind out at n h = rw (tail_part at out, length-drop) (omega arith)

pub put_tail : (at : ℕ) (out last : List ℕ) → put_mid at (length out - at) out last ≡ take at out ++ last
put_tail at out last =
    let h : length (drop at out) ≤ length out - at = rw length-drop (omega arith) in
    ap (λ (x : List ℕ). take at out ++ (last ++ x)) (drop_of_length-le (drop at out) h) ∙ ap (λ (x : List ℕ). take at out ++ x) (append-nil last)

-- out[at..] was lent, and w was written over its start: the law of writing behind
pub behind : (a d out w last : List ℕ) (at n : ℕ) → Wrote a d out → at ≡ length a → n ≡ length w → length a + length w ≤ length d
    → last ≡ w ++ drop n (take (length out - at) (drop at out)) → Wrote (a ++ w) d (put_mid at (length out - at) out last)
behind a d out w last at n h e m l q =
    put_behind a d out w (put_mid at (length out - at) out last) at n h e m l
    (put_tail at out last ∙ ap (λ (x : List ℕ). take at out ++ x) (q ∙ ap (λ (x : List ℕ). w ++ drop n x) (tail_part at out) ∙ ap (λ (x : List ℕ). w ++ x) (drop-drop n at out)))

-- what a contract says of it
pub told : (a w d out : List ℕ) (n : ℕ) → Wrote a d out → a ≡ w → length w ≡ n → out ≡ w ++ drop n d
told a w d out n h e l = h.is ∙ ap (λ (x : List ℕ). x ++ drop (length x) d) e ∙ ap (λ (x : ℕ). w ++ drop x d) l

-- what a contract that writes over the start says
pub at_first : (w d out : List ℕ) (n : ℕ) → n ≡ length w → length w ≤ length d → out ≡ w ++ drop n d → Wrote w d out
at_first w d out n m l q = record { is = q ∙ ap (λ (k : ℕ). w ++ drop k d) m; room = l }

-- one byte put behind
pub byte : (a d out : List ℕ) (b at : ℕ) → Wrote a d out → at ≡ length a → length a + 1 ≤ length d → Wrote (a ++ (b ∷ [])) d (set out at b)
byte a d out b at h e l =
    let c : drop (length a) d ≡ get_or d (length a) 0 ∷ drop (suc (length a)) d = drop-cons d (length a) 0 (omega arith) in
    let n : suc (length a) ≡ length (a ++ (b ∷ [])) = sym (length-append a (b ∷ []) ∙ add-one (length a)) in
    record {
      is = ap (λ (x : List ℕ). set x at b) (h.is ∙ ap (λ (x : List ℕ). a ++ x) c)
          ∙ set_at a (get_or d (length a) 0) (drop (suc (length a)) d) b at (sym e)
          ∙ sym (append_snoc a b (drop (suc (length a)) d))
          ∙ ap (λ (x : ℕ). (a ++ (b ∷ [])) ++ drop x d) n;
      room = rw length-append l;
    }

-- a copy, byte by byte
pub copied_more : (d s out : List ℕ) (i : ℕ) → i < length s → length s ≤ length d → Wrote (take i s) d out → Wrote (take (i + 1) s) d (set out i (get_or s i 0))
copied_more d s out i h l w =
    let n : i ≡ length (take i s) = sym (length-take i s ∙ omega arith) in
    subst (λ (x : List ℕ). Wrote x d (set out i (get_or s i 0))) (sym (ap (λ (x : ℕ). take x s) (add-one i) ∙ take-suc s i 0 h))
    (byte (take i s) d out (get_or s i 0) i w n (omega arith))

-- a byte that was set
pub set_byte : (out : List ℕ) (at b : ℕ) → at + 1 ≤ length out → set out at b ≡ take at out ++ ((b ∷ []) ++ drop (at + 1) out)
set_byte out at b h = set_split out at b (omega arith) ∙ ap (λ (x : ℕ). take at out ++ (b ∷ drop x out)) (sym (add-one at))

-- all of d is written over
pub whole : (a d out : List ℕ) → Wrote a d out → length a ≡ length d → out ≡ a
whole a d out h e = h.is ∙ ap (λ (x : List ℕ). a ++ x) (drop_of_length-le d {i = length a} (omega arith)) ∙ append-nil a
