-- The lines in turn: what holds behind some of them, at the start, from one to the next, at a refusal and at the end.
-- Assumes nothing.
use Prim.Native.Nat.{ℕ, suc, ◌+◌, ◌-◌, ◌*◌, ◌≤◌, ◌<◌}
use mathlib.Core.Path.{◌≡◌, refl, sym, ap, ap₂, subst, ◌∙◌}
use mathlib.Core.List.{List, [], ◌∷◌, ◌++◌, append-nil, append_assoc}
use mathlib.Core.Bool.{Bool, true, false, not}
use native.Mathlib.Numerals.{add-one}
use native.Mathlib.Omega.{arith}
use lib.Dec.{eqb}
use lib.Seq.{drop-cons}
use lib.ListN.{length, get_or, take, drop, length-append, length-drop, take-append-drop, drop_of_length-le}
use borrow.Rule.Slice.PartMut.{put_mid}
use Rattle.std.specs.Prelude.{if◌then◌else◌, Ok, Err}
use Rattle.std.specs.List.{enumerate_from, filter, slice_split}
use Rattle.std.proofs.lemmas.List.{get_or_default}
use Rattle.std.proofs.lemmas.List.FromFn.{length-enumerate_from, get_or-enumerate_from}
use Rattle.limits.specs.Limits.{record_bytes}
use Rattle.layout.specs.Findings.{Finding, fault, sound}
use Rattle.layout.specs.declared.Fault.{Fault}
use Rattle.layout.specs.declared.Reason.{Reason}
use Rattle.rules.specs.Refusals.{refusal}
use Rattle.rules.specs.declared.Refusal.{Refusal}
use Rattle.operations.specs.Making.{Making, lent_record, on_sound, recorded}
use Rattle.field_texts.proofs.Wrote.{Wrote, wrote_none, wrote_length, tail_part, behind}
use Rattle.make_lines.specs.Draft.{Drafting, Taken, line_making, line_record, not_drafted, on_made, taken_by, line_taken, taken_bytes, draft_from, records_on, records_from, LinesPromise, enough, on_enough, bytes_on, draft_of, draft_bytes, DraftPromise}
use Rattle.make_lines.proofs.Made.{made_room}
use Rattle.make_lines.specs.Lines.{between, without_return, all_without_return, lines_of, passed_over, bearing}
use Rattle.make_lines.proofs.Pieces.{between_is, line_is}

-- ---- how many lines bear a record
bearing_of : (ss : List (List ℕ)) → length (filter (λ l. not (passed_over (without_return l))) ss) ≡ bearing (all_without_return ss)
unfolding bearing all_without_return
bearing_of [] = refl
bearing_of (s ∷ ss) = go (passed_over (without_return s)) _ _ (bearing_of ss)
  where
    go : (b : Bool) (xs : List (List ℕ)) (n : ℕ) → length xs ≡ n → length (if not b then s ∷ xs else xs) ≡ (if b then 0 else 1) + n
    go true xs n h = omega arith
    go false xs n h = omega arith

pub bearing_is : (v : List ℕ) → length (filter (λ l. not (passed_over (without_return l))) (slice_split (λ b. eqb b 10) v)) ≡ bearing (lines_of v)
bearing_is v = ap (λ (x : List (List ℕ)). length (filter (λ l. not (passed_over (without_return l))) x)) (between_is 10 v) ∙ bearing_of (between 10 v)

-- ---- the lines, each with its place, as `enumerate` gives them
lines_long : (ss : List (List ℕ)) → length (all_without_return ss) ≡ length ss
unfolding all_without_return
lines_long [] = refl
lines_long (s ∷ ss) = ap suc (lines_long ss)

module _ (v : List ℕ) where
  many : length (lines_of v) ≡ length (enumerate_from 0 (slice_split (λ b. eqb b 10) v))
  many = lines_long (between 10 v) ∙ ap length (sym (between_is 10 v)) ∙ sym (length-enumerate_from 0 (slice_split (λ b. eqb b 10) v))

  -- all of them were there
  pub all_lines : (k : ℕ) → k ≡ length (enumerate_from 0 (slice_split (λ b. eqb b 10) v)) → length (lines_of v) ≤ k
  all_lines k e = omega (arith, many, e)

  -- the next of them, behind k of them
  module _ (k i : ℕ) (w : List ℕ) (h : k < length (enumerate_from 0 (slice_split (λ b. eqb b 10) v))) (e : ◌≡◌ {A = ℕ × List ℕ} (i, w) (get_or (enumerate_from 0 (slice_split (λ b. eqb b 10) v)) k (i, w))) where
    here : ◌≡◌ {A = ℕ × List ℕ} (i, w) (0 + k, get_or (slice_split (λ b. eqb b 10) v) k w)
    here = e ∙ get_or-enumerate_from 0 (slice_split (λ b. eqb b 10) v) k (i, w) (omega (arith, length-enumerate_from 0 (slice_split (λ b. eqb b 10) v)))

    short : k < length (slice_split (λ b. eqb b 10) v)
    short = omega (arith, length-enumerate_from 0 (slice_split (λ b. eqb b 10) v))

    pub line_place : i ≡ k
    line_place = omega (arith, ap (λ (p : ℕ × List ℕ). p.0) here)

    pub line_next : drop k (lines_of v) ≡ without_return w ∷ drop (k + 1) (lines_of v)
    line_next =
        drop-cons (lines_of v) k [] (omega (arith, many))
        ∙ ap₂ (λ (x : List ℕ) (n : ℕ). x ∷ drop n (lines_of v))
        (sym (line_is v k w (ap (λ (p : ℕ × List ℕ). p.1) here ∙ get_or_default (slice_split (λ b. eqb b 10) v) k w [] short ∙ ap (λ (ss : List (List ℕ)). get_or ss k []) (between_is 10 v)))) (sym (add-one k))

-- what a line adds, by cases
pub taken_passed : (l : List ℕ) (room : ℕ) → passed_over l ≡ true → Ok 0 ≡ line_taken l room
unfolding line_taken
taken_passed l room h = sym (simp h)

pub taken_else : (l : List ℕ) (room : ℕ) (x : Making) → passed_over l ≡ false → x ≡ line_making l room → taken_by x ≡ line_taken l room
unfolding line_taken
taken_else l room x h e = ap taken_by e ∙ sym (ap (λ (b : Bool). if b then Ok 0 else taken_by (line_making l room)) h)

pub bytes_passed : (l out : List ℕ) → passed_over l ≡ true → out ≡ taken_bytes l out
unfolding taken_bytes
bytes_passed l out h = sym (simp h)

pub bytes_else : (l out after : List ℕ) → passed_over l ≡ false → after ≡ lent_record (line_making l (length out)) (line_record l) out → after ≡ taken_bytes l out
unfolding taken_bytes
bytes_else l out after h e = e ∙ sym (ap (λ (b : Bool). if b then out else lent_record (line_making l (length out)) (line_record l) out) h)

never : (x : Reason) (y k : ℕ) → Err (fault x y) ≡ Ok k → ⊥
never x y k h = let z : ◌≡◌ {A = ℕ} 0 1 = cc in omega arith

-- a part that came back as it was lent, and one that came back as w
put_tail : (at : ℕ) (out last : List ℕ) → put_mid at (length out - at) out last ≡ take at out ++ last
put_tail at out last =
    let h : length (drop at out) ≤ length out - at = rw length-drop (omega arith) in
    ap (λ (x : List ℕ). take at out ++ (last ++ x)) (drop_of_length-le (drop at out) h) ∙ ap (λ (x : List ℕ). take at out ++ x) (append-nil last)

untouched : (at : ℕ) (out last : List ℕ) → last ≡ take (length out - at) (drop at out) → put_mid at (length out - at) out last ≡ out
untouched at out last e =
    put_tail at out last ∙ ap (λ (x : List ℕ). take at out ++ x) (e ∙ tail_part at out) ∙ take-append-drop at out

-- behind i lines, of which n made records
pub record Going (ls : List (List ℕ)) (d out : List ℕ) (i n : ℕ) : Type 0 where
  pub few : n ≤ i
  pub made : List ℕ
  pub wrote : Wrote made d out
  pub size : length made ≡ record_bytes * n
  pub same : draft_from (length d) 0 0 ls ≡ draft_from (length d - record_bytes * n) i n (drop i ls)
  pub bytes : records_from (length d) ls ≡ made ++ records_from (length d - record_bytes * n) (drop i ls)

pub going_start : (ls : List (List ℕ)) (d : List ℕ) → Going ls d d 0 0
going_start ls d =
    let z : length d ≡ length d - record_bytes * 0 = omega arith in
    record {
      few = omega arith;
      made = [];
      wrote = wrote_none d;
      size = refl;
      same = ap (λ (x : ℕ). draft_from x 0 0 ls) z;
      bytes = ap (λ (x : ℕ). records_from x ls) z;
    }

pub going_long : (ls : List (List ℕ)) (d out : List ℕ) (i n : ℕ) → Going ls d out i n → (length out ≡ length d) × (record_bytes * n ≤ length d)
going_long ls d out i n g = (wrote_length g.made d out g.wrote, omega (arith, g.size, g.wrote.room))

pub going_room : (ls : List (List ℕ)) (d out : List ℕ) (i n : ℕ) → Going ls d out i n → record_bytes * n ≤ length out
going_room ls d out i n g = let x = going_long ls d out i n g in omega (arith, x.0, x.1)

-- a refusal, as it is told
pub refused_told : (v d : List ℕ) {after : List ℕ} (x y : Refusal) → x ≡ y → LinesPromise v d (Err y) after → LinesPromise v d (Err x) after
refused_told v d {after} x y e p = subst (λ (z : Refusal). LinesPromise v d (Err z) after) (sym e) p

written_all : (v d out made : List ℕ) → Wrote made d out → records_from (length d) (lines_of v) ≡ made
    → out ≡ records_from (length d) (lines_of v) ++ drop (length (records_from (length d) (lines_of v))) d
written_all v d out made w e = w.is ∙ ap (λ (x : List ℕ). x ++ drop (length x) d) (sym e)

pub going_end : (v d out : List ℕ) (i n : ℕ) → Going (lines_of v) d out i n → length (lines_of v) ≤ i → LinesPromise v d (Ok n) out
unfolding draft_from records_from
going_end v d out i n g h =
    let z : drop i (lines_of v) ≡ [] = drop_of_length-le (lines_of v) h in
    let room = length d - record_bytes * n in
    record {
      answers = sym (g.same ∙ ap (draft_from room i n) z);
      leaves =
          written_all v d out g.made g.wrote
          (g.bytes ∙ ap (λ (x : List (List ℕ)). g.made ++ records_from room x) z ∙ append-nil g.made);
    }

-- ---- one line more
module _ (v d out : List ℕ) (i n : ℕ) (g : Going (lines_of v) d out i n) (l : List ℕ) (q : drop i (lines_of v) ≡ l ∷ drop (i + 1) (lines_of v)) (last : List ℕ)
    (b : last ≡ taken_bytes l (take (length out - record_bytes * n) (drop (record_bytes * n) out))) where
  lent_long : length (take (length out - record_bytes * n) (drop (record_bytes * n) out)) ≡ length d - record_bytes * n
  lent_long =
      let x = going_long (lines_of v) d out i n g in
      let y : length (drop (record_bytes * n) out) ≡ length out - record_bytes * n = length-drop (record_bytes * n) out in
      ap length (tail_part (record_bytes * n) out) ∙ omega (arith, x.0, y)

  draft_here : draft_from (length d) 0 0 (lines_of v) ≡ (if passed_over l then draft_from (length d - record_bytes * n) (i + 1) n (drop (i + 1) (lines_of v))
      else on_made (line_making l (length d - record_bytes * n)) (i + 1) (draft_from (length d - record_bytes * n - record_bytes) (i + 1) (n + 1) (drop (i + 1) (lines_of v))))
  unfolding draft_from
  draft_here = g.same ∙ ap (draft_from (length d - record_bytes * n) i n) q

  records_here : records_from (length d) (lines_of v) ≡ g.made ++ (if passed_over l then records_from (length d - record_bytes * n) (drop (i + 1) (lines_of v))
      else records_on (line_making l (length d - record_bytes * n)) (line_record l) (records_from (length d - record_bytes * n - record_bytes) (drop (i + 1) (lines_of v))))
  unfolding records_from
  records_here = g.bytes ∙ ap (λ (x : List (List ℕ)). g.made ++ records_from (length d - record_bytes * n) x) q

  -- the answer and the bytes, by cases of the line
  answer_by : (p : Bool) (m : Making) → passed_over l ≡ p → line_making l (length d - record_bytes * n) ≡ m → draft_from (length d) 0 0 (lines_of v)
      ≡ (if p then draft_from (length d - record_bytes * n) (i + 1) n (drop (i + 1) (lines_of v))
      else on_made m (i + 1) (draft_from (length d - record_bytes * n - record_bytes) (i + 1) (n + 1) (drop (i + 1) (lines_of v))))
  answer_by p m x y =
      let room = length d - record_bytes * n in
      draft_here ∙ ap₂ (λ (p : Bool) (m : Making). if p then draft_from room (i + 1) n (drop (i + 1) (lines_of v)) else on_made m (i + 1) (draft_from (room - record_bytes) (i + 1) (n + 1) (drop (i + 1) (lines_of v)))) x y

  records_by : (p : Bool) (m : Making) → passed_over l ≡ p → line_making l (length d - record_bytes * n) ≡ m → records_from (length d) (lines_of v)
      ≡ g.made ++ (if p then records_from (length d - record_bytes * n) (drop (i + 1) (lines_of v))
      else records_on m (line_record l) (records_from (length d - record_bytes * n - record_bytes) (drop (i + 1) (lines_of v))))
  records_by p m x y =
      let room = length d - record_bytes * n in
      records_here ∙ ap₂ (λ (p : Bool) (m : Making). g.made ++ (if p then records_from room (drop (i + 1) (lines_of v)) else records_on m (line_record l) (records_from (room - record_bytes) (drop (i + 1) (lines_of v))))) x y

  last_by : (p : Bool) (m : Making) → passed_over l ≡ p → line_making l (length d - record_bytes * n) ≡ m
      → last ≡ (if p then take (length out - record_bytes * n) (drop (record_bytes * n) out) else lent_record m (line_record l) (take (length out - record_bytes * n) (drop (record_bytes * n) out)))
  unfolding taken_bytes
  last_by p m x y =
      let o = take (length out - record_bytes * n) (drop (record_bytes * n) out) in
      b ∙ ap₂ (λ (p : Bool) (m : Making). if p then o else lent_record m (line_record l) o) x (ap (line_making l) lent_long ∙ y)

  taken_by_lem : (t : Taken) (p : Bool) (m : Making) → passed_over l ≡ p → line_making l (length d - record_bytes * n) ≡ m
      → t ≡ line_taken l (length (take (length out - record_bytes * n) (drop (record_bytes * n) out))) → t ≡ (if p then Ok 0 else taken_by m)
  unfolding line_taken
  taken_by_lem t p m x y r = r ∙ ap₂ (λ (p : Bool) (m : Making). if p then Ok 0 else taken_by m) x (ap (line_making l) lent_long ∙ y)

  -- the line is refused
  pub going_stop : (x : Reason) (y : ℕ) → Err (fault x y) ≡ line_taken l (length (take (length out - record_bytes * n) (drop (record_bytes * n) out)))
      → LinesPromise v d (not_drafted x (i + 1) y) (put_mid (record_bytes * n) (length out - record_bytes * n) out last)
  unfolding lent_record
  going_stop x y r = go (passed_over l) (line_making l (length d - record_bytes * n)) refl refl
    where
      go : (p : Bool) (m : Making) → passed_over l ≡ p → line_making l (length d - record_bytes * n) ≡ m
          → LinesPromise v d (not_drafted x (i + 1) y) (put_mid (record_bytes * n) (length out - record_bytes * n) out last)
      go true m s t = absurd (never x y 0 (taken_by_lem (Err (fault x y)) true m s t r))
      go false (Ok u) s t = absurd (never x y 1 (taken_by_lem (Err (fault x y)) false recorded s t r))
      go false (Err z) s t =
          let k : Err (fault x y) ≡ Err (fault z.reason z.field) = taken_by_lem (Err (fault x y)) false (Err z) s t r in
          let e : fault x y ≡ fault z.reason z.field = cc in
          let kx : x ≡ z.reason = ap (λ (f : Fault). f.reason) e in
          let ky : y ≡ z.field = ap (λ (f : Fault). f.field) e in
          record {
            answers = ap₂ (λ (a : Reason) (c : ℕ). not_drafted a (i + 1) c) kx ky ∙ sym (answer_by false (Err z) s t);
            leaves =
                untouched (record_bytes * n) out last (last_by false (Err z) s t)
                ∙ written_all v d out g.made g.wrote (records_by false (Err z) s t ∙ append-nil g.made);
          }

  -- it is passed over, or it makes a record
  pub going_next : (k : ℕ) → length last ≡ length (take (length out - record_bytes * n) (drop (record_bytes * n) out))
      → Ok k ≡ line_taken l (length (take (length out - record_bytes * n) (drop (record_bytes * n) out)))
      → Going (lines_of v) d (put_mid (record_bytes * n) (length out - record_bytes * n) out last) (i + 1) (n + k)
  unfolding lent_record
  going_next k f r = go (passed_over l) (line_making l (length d - record_bytes * n)) refl refl
    where
      go : (p : Bool) (m : Making) → passed_over l ≡ p → line_making l (length d - record_bytes * n) ≡ m
          → Going (lines_of v) d (put_mid (record_bytes * n) (length out - record_bytes * n) out last) (i + 1) (n + k)
      go true m s t =
          let x : Ok k ≡ Ok 0 = taken_by_lem (Ok k) true m s t r in
          let z : k ≡ 0 = cc in
          let zn : n ≡ n + k = omega arith in
          let zr : length d - record_bytes * n ≡ length d - record_bytes * (n + k) = omega arith in
          record {
            few = omega (arith, g.few);
            made = g.made;
            wrote = subst (Wrote g.made d) (sym (untouched (record_bytes * n) out last (last_by true m s t))) g.wrote;
            size = g.size ∙ ap (λ (x : ℕ). record_bytes * x) zn;
            same = answer_by true m s t ∙ ap₂ (λ (x y : ℕ). draft_from x (i + 1) y (drop (i + 1) (lines_of v))) zr zn;
            bytes = records_by true m s t ∙ ap (λ (x : ℕ). g.made ++ records_from x (drop (i + 1) (lines_of v))) zr;
          }
      go false (Ok u) s t =
          let x : Ok k ≡ Ok 1 = taken_by_lem (Ok k) false recorded s t r in
          let z : k ≡ 1 = cc in
          let zn : n + 1 ≡ n + k = omega arith in
          let room = made_room l (length d - record_bytes * n) t in
          let zr : length d - record_bytes * n - record_bytes ≡ length d - record_bytes * (n + k) = omega arith in
          let a = last_by false recorded s t in
          let u = ap length a ∙ length-append (line_record l) (drop record_bytes (take (length out - record_bytes * n) (drop (record_bytes * n) out))) in
          let y : length (drop record_bytes (take (length out - record_bytes * n) (drop (record_bytes * n) out))) ≡ length (take (length out - record_bytes * n) (drop (record_bytes * n) out)) - record_bytes =
          length-drop record_bytes (take (length out - record_bytes * n) (drop (record_bytes * n) out)) in
          let c : record_bytes ≡ length (line_record l) = omega (arith, u, y, f, lent_long, room) in
          record {
            few = omega (arith, g.few);
            made = g.made ++ line_record l;
            wrote = behind g.made d out (line_record l) last (record_bytes * n) record_bytes g.wrote (sym g.size) c (omega (arith, g.size, c, room)) a;
            size = length-append g.made (line_record l) ∙ omega (arith, g.size, c, z);
            same = answer_by false recorded s t ∙ ap₂ (λ (x y : ℕ). draft_from x (i + 1) y (drop (i + 1) (lines_of v))) zr zn;
            bytes = records_by false recorded s t ∙ sym (append_assoc g.made (line_record l) (records_from (length d - record_bytes * n - record_bytes) (drop (i + 1) (lines_of v))))
                ∙ ap (λ (x : ℕ). (g.made ++ line_record l) ++ records_from x (drop (i + 1) (lines_of v))) zr;
          }
      go false (Err z) s t = absurd (never z.reason z.field k (sym (taken_by_lem (Ok k) false (Err z) s t r)))

-- a line adds one record at most
pub added_few : (l : List ℕ) (room k : ℕ) → Ok k ≡ line_taken l room → k ≤ 1
unfolding line_taken
added_few l room k h = go (passed_over l) (line_making l room) h
  where
    go : (p : Bool) (m : Making) → Ok k ≡ (if p then Ok 0 else taken_by m) → k ≤ 1
    go true m e = let z : k ≡ 0 = cc in omega arith
    go false (Ok u) e = let z : k ≡ 1 = cc in omega arith
    go false (Err x) e = absurd (never x.reason x.field k (sym e))

-- ---- how many records there are, and then the lines
not_begun : (f : Finding) (x : Refusal) (d : Drafting) → on_sound f recorded ≡ Err x → on_enough f d ≡ Err x
not_begun (Ok u) x d h = let z : ◌≡◌ {A = ℕ} 0 1 = cc in absurd (omega arith)
not_begun (Err e) x d h = let q : refusal e.reason 0 0 e.field ≡ x = cc in ap Err q

none_written : (f : Finding) (x : Refusal) (r : List ℕ) → on_sound f recorded ≡ Err x → bytes_on f r ≡ []
none_written (Ok u) x r h = let z : ◌≡◌ {A = ℕ} 0 1 = cc in absurd (omega arith)
none_written (Err e) x r h = refl

module _ (v out : List ℕ) where
  pub draft_refused : {x : Refusal} {y : Drafting} → on_sound (enough (bearing (lines_of v))) recorded ≡ Err x → y ≡ Err x → DraftPromise v out y out
  unfolding draft_of draft_bytes
  draft_refused {x} h g =
      let b = none_written (enough (bearing (lines_of v))) x (records_from (length out) (lines_of v)) h in
      record {
        answers = g ∙ sym (not_begun (enough (bearing (lines_of v))) x (draft_from (length out) 0 0 (lines_of v)) h);
        leaves = sym (ap (λ (z : List ℕ). z ++ drop (length z) out) b);
      }

  pub draft_made : {answer : Drafting} {after : List ℕ} → enough (bearing (lines_of v)) ≡ sound → LinesPromise v out answer after → DraftPromise v out answer after
  unfolding draft_of draft_bytes
  draft_made h p =
      record {
        answers = p.answers ∙ sym (ap (λ (x : Finding). on_enough x (draft_from (length out) 0 0 (lines_of v))) h);
        leaves = p.leaves ∙ sym (ap (λ (x : Finding). bytes_on x (records_from (length out) (lines_of v)) ++ drop (length (bytes_on x (records_from (length out) (lines_of v)))) out) h);
      }
