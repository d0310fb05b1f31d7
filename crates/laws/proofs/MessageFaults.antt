-- What 17 and 23 say of a file: only a 49 is refused with them, 17 where it and an earlier 49 of its transaction have one place, 23 where its transaction has 42 of them.
-- Assumes nothing.
use Prim.Native.Nat.{ℕ, ◌+◌, ◌≤◌}
use mathlib.Core.Logic.{◌⊎◌, inl, inr}
use mathlib.Core.Path.{◌≡◌, refl, sym, ap, subst, ◌∙◌}
use mathlib.Core.List.{List, [], ◌∷◌, ◌++◌, append-nil}
use mathlib.Core.Bool.{Bool, true, false, not, ◌&&◌, ◌||◌, true≢false}
use native.Mathlib.Omega.{arith}
use borrow.Author.Tests.{eqb-true, ltb-true, ltb-false, not-true}
use lib.Count.{ones}
use lib.Dec.{eqb, ltb}
use lib.ListN.{length}
use Rattle.std.specs.Prelude.{if◌then◌else◌, Ok, Err}
use Rattle.limits.specs.Limits.{most_in_message}
use Rattle.dates.specs.declared.ProcessDay.{ProcessDay}
use Rattle.dates.specs.declared.Window.{Window}
use Rattle.figures.specs.Totals.{none, ◌⊕◌}
use Rattle.figures.specs.declared.totals.Totals.{Totals}
use Rattle.fields.proofs.Tests.{and_left, and_right}
use Rattle.layout.specs.Rules.{textual, zeros}
use Rattle.layout.specs.Findings.{or_else, sound, number_of}
use Rattle.layout.specs.Rows.{Row, at, must, member, passes, row_reason, row_field, first_fault, AllHold}
use Rattle.layout.proofs.Laws.{next, stop, ended, pieces}
use Rattle.rules.specs.Codes.{kind_for, kind_of, number_of_kind, service_code}
use Rattle.rules.specs.Fields.{on, message_of}
use Rattle.rules.specs.Growth.{gain, keys, turn_for, turn, start}
use Rattle.rules.specs.Layouts.{line_feed, repeats, notification49, notification_by, record49, table_for, rows}
use Rattle.rules.specs.Messages.{taken, no_places, used, place_in, has_place, clashes_in}
use Rattle.rules.specs.Order.{behind, may_follow}
use Rattle.rules.specs.Payments.{line, column}
use Rattle.rules.specs.Refusals.{refusal, refused}
use Rattle.rules.specs.Run.{records_of, check_of}
use Rattle.rules.specs.declared.Assignment.{Assignment}
use Rattle.rules.specs.declared.Kind.{Kind}
use Rattle.rules.specs.declared.Kind.TheVariants.{R10, R20, R30, R31, R40, R41, R49, R50, R88, R89, Other}
use Rattle.rules.specs.declared.Mode.{Mode}
use Rattle.rules.specs.declared.Mode.TheVariants.{File, Draft}
use Rattle.rules.specs.declared.Places.{Places}
use Rattle.rules.specs.declared.Refusal.{Refusal}
use Rattle.rules.proofs.Free.{clash, full, room}
use Rattle.rules.proofs.Mask.{none_taken, one_place_more, placed_clashes, unplaced_free, taken_after}
use Rattle.operations.specs.Closing.{close_of}
use Rattle.laws.specs.Meets.{turns, gains, all_keys, Meets, FirstFault, Refusing, wrong_day, wrong_length, too_many, at_record, at_end}
use Rattle.laws.specs.Closable.{CloseRefusing}
use Rattle.laws.specs.Closable as draft
use Rattle.laws.specs.Messages.{NoPayment, count49, TakenBefore, LastPayment, FullMessage, SomeUnplaced, At49, Clash, OneTooMany}
use Rattle.laws.proofs.Closing.{close_order}
use Rattle.laws.proofs.Demand2.{refused_first}
use Rattle.laws.proofs.First.{broken_so, fault_inj, sound_not_fault}
use Rattle.laws.proofs.FortyTwo.{OfPlaces, no_place, most_places, placed_more, of_places_lem, unplaced_among}
use Rattle.laws.proofs.Messages.{up_to_column, place_repeated, message_full}
use Rattle.laws.proofs.Sound.{meets_split, turns_join}
use Rattle.laws.proofs.Transactions.{Outside, Limited, line_in, column_in, bounded_by, free_in, only, none_behind, outside_on, grown, others, within_limit, is_49}
use Rattle.laws.proofs.Types.{type_by}
use Rattle.layout.specs.Findings.{Finding, fault}
use Rattle.rules.specs.Refusals.{Verdict}
use Rattle.layout.specs.declared.Reason.TheVariants.{PlaceTaken, MessageFull, NoProcessDay, BrokenLength, TooManyRecords, EndsEarly, NotAddedUp, NoRoom, OutOfPlace}
use Rattle.layout.specs.declared.Reason.{Reason}

-- ---- the rows that give 17 or 23
abbrev of_places : Reason → Bool
of_places n = eqb (number_of n) 17 || eqb (number_of n) 23

unfoldable lacks : List Row → Bool
lacks [] = true
lacks (w ∷ ws) = not (of_places (row_reason w)) && lacks ws

module _ (f : Totals) (ks r : List ℕ) (n : Reason) (k : ℕ) (q : of_places n ≡ true) where
  -- a row of another reason holds
  past_row : (w : Row) (ws : List Row) → of_places (row_reason w) ≡ false → first_fault f ks r (w ∷ ws) ≡ Err (fault n k) → (passes f ks r w ≡ true) × (first_fault f ks r ws ≡ Err (fault n k))
  past_row w ws h e = go (passes f ks r w) refl
    where
      go : (b : Bool) → passes f ks r w ≡ b → (passes f ks r w ≡ true) × (first_fault f ks r ws ≡ Err (fault n k))
      go true p = (p, sym (next f ks r w ws p) ∙ e)
      go false p =
          let same = (fault_inj (row_reason w) (row_field w) n k (sym (stop f ks r w ws p) ∙ e)).0 in
          absurd (true≢false (sym q ∙ ap of_places (sym same) ∙ h))

  past_rows : (ws vs : List Row) → lacks ws ≡ true → first_fault f ks r (ws ++ vs) ≡ Err (fault n k) → AllHold f ks r ws × (first_fault f ks r vs ≡ Err (fault n k))
  unfolding lacks AllHold
  past_rows [] vs h e = (tt, e)
  past_rows (w ∷ ws) vs h e =
      let here = past_row w (ws ++ vs) (not-true (of_places (row_reason w)) (and_left _ _ h)) e in
      let rest = past_rows ws vs (and_right (not (of_places (row_reason w))) (lacks ws) h) here.1 in
      ((here.0, rest.0), rest.1)

  none_gives : (ws : List Row) → lacks ws ≡ true → first_fault f ks r ws ≡ Err (fault n k) → ⊥
  unfolding lacks
  none_gives [] h e = sound_not_fault n k (sym (ended f ks r) ∙ e)
  none_gives (w ∷ ws) h e =
      none_gives ws (and_right (not (of_places (row_reason w))) (lacks ws) h) (past_row w ws (not-true (of_places (row_reason w)) (and_left _ _ h)) e).1

  -- so what comes before such rows gives it
  before_others : (ws vs : List Row) → lacks vs ≡ true → first_fault f ks r (ws ++ vs) ≡ Err (fault n k) → first_fault f ks r ws ≡ Err (fault n k)
  before_others ws vs h e = go (first_fault f ks r ws) refl
    where
      joined : (x : Finding) → first_fault f ks r ws ≡ x → or_else x (first_fault f ks r vs) ≡ Err (fault n k)
      joined x p = sym (pieces f ks r ws vs ∙ ap (λ (y : Finding). or_else y (first_fault f ks r vs)) p) ∙ e

      go : (x : Finding) → first_fault f ks r ws ≡ x → first_fault f ks r ws ≡ Err (fault n k)
      go (Ok u) p = absurd (none_gives vs h (joined sound p))
      go (Err e) p = p ∙ joined (Err e) p

-- the notification code does not
code_lacks : (s : ℕ) → lacks (notification49 s) ≡ true
unfolding lacks notification49
code_lacks s = go (eqb s 4)
  where
    go : (b : Bool) → lacks (notification_by b) ≡ true
    go true = refl
    go false = refl

-- a record that is refused with one of them is a 49 that may stand where it stands, and it is what its line and column find of the message
record Of49 (m : Mode) (f : Totals) (ks r : List ℕ) (a : Assignment) (n : Reason) (k : ℕ) : Type 0 where
  type : kind_of r ≡ R49
  follows : may_follow m a R49 ≡ true
  bounds : (line_in r ≤ 21) × (column_in r ≤ 2)
  found : first_fault f ks r (free_in a.places r) ≡ Err (fault n k)

of_49 : (m : Mode) (w : Window) (f : Totals) (ks r : List ℕ) (a : Assignment) (n : Reason) (k : ℕ) → of_places n ≡ true → first_fault f ks r (rows m w a r) ≡ Err (fault n k) → Of49 m f ks r a n k
unfolding lacks AllHold
of_49 m w f ks r a n k q e = go (kind_of r) refl top.0.1.0 top.1
  where
    top : AllHold f ks r (at 0 81 81 line_feed ∷ must (may_follow m a (kind_of r)) OutOfPlace 4 ∷ []) × (first_fault f ks r (table_for (kind_of r) w a r) ≡ Err (fault n k))
    top = past_rows f ks r n k q (at 0 81 81 line_feed ∷ must (may_follow m a (kind_of r)) OutOfPlace 4 ∷ []) (table_for (kind_of r) w a r) refl e

    message : first_fault f ks r (table_for R49 w a r) ≡ Err (fault n k) → ((line_in r ≤ 21) × (column_in r ≤ 2)) × (first_fault f ks r (free_in a.places r) ≡ Err (fault n k))
    message x =
        let m = message_of (service_code r) in
        let y = (past_rows f ks r n k q (repeats a r) _ refl x).1 in
        let z = (past_rows f ks r n k q (notification49 (service_code r)) _ (code_lacks (service_code r)) y).1 in
        let sound = past_rows f ks r n k q (on m.line line ∷ on m.column column ∷ []) _ refl z in
        (bounded_by r sound.0.0 sound.0.1.0, before_others f ks r n k q (free_in a.places r) (on m.text textual ∷ on m.filler zeros ∷ []) refl sound.1)

    go : (j : Kind) → kind_of r ≡ j → may_follow m a (kind_of r) ≡ true → first_fault f ks r (table_for j w a r) ≡ Err (fault n k) → Of49 m f ks r a n k
    go R10 t h x = absurd (none_gives f ks r n k q (table_for R10 w a r) refl x)
    go R20 t h x = absurd (none_gives f ks r n k q (table_for R20 w a r) refl x)
    go R30 t h x = absurd (none_gives f ks r n k q (table_for R30 w a r) refl x)
    go R31 t h x = absurd (none_gives f ks r n k q (table_for R31 w a r) refl x)
    go R40 t h x = absurd (none_gives f ks r n k q (table_for R40 w a r) refl x)
    go R41 t h x = absurd (none_gives f ks r n k q (table_for R41 w a r) refl x)
    go R49 t h x = let y = message x in record { type = t; follows = sym (ap (may_follow m a) t) ∙ h; bounds = y.0; found = y.1 }
    go R50 t h x = absurd (none_gives f ks r n k q (table_for R50 w a r) refl x)
    go R88 t h x = absurd (none_gives f ks r n k q (table_for R88 w a r) refl x)
    go R89 t h x = absurd (none_gives f ks r n k q (table_for R89 w a r) refl x)
    go Other t h x = absurd (none_gives f ks r n k q (table_for Other w a r) refl x)

-- 17 where its place is taken, 23 where it is one too many
module _ (f : Totals) (ks r : List ℕ) (a : Assignment) (k : ℕ) where
  numbers_differ : (i j : Reason) (l : ℕ) → ◌≡◌ {A = Finding} (Err (fault i l)) (Err (fault j k)) → (i ≡ j → ⊥) → ⊥
  numbers_differ i j l e h = h (fault_inj i l j k e).0

  by_17 : first_fault f ks r (free_in a.places r) ≡ Err (fault PlaceTaken k) → clashes_in a.places r ≡ true
  by_17 e = go (clashes_in a.places r) refl (ltb (used a.places) most_in_message) refl
    where
      go : (b : Bool) → clashes_in a.places r ≡ b → (c : Bool) → ltb (used a.places) most_in_message ≡ c → clashes_in a.places r ≡ true
      go true h c l = h
      go false h true l = absurd (sound_not_fault PlaceTaken k (sym (room a.places _ _ f ks r h (ltb-true _ _ l)) ∙ e))
      go false h false l = absurd (numbers_differ MessageFull PlaceTaken 7 (sym (full a.places _ _ f ks r h (ltb-false _ _ l)) ∙ e) (λ z. omega (arith, ap number_of z)))

  by_23 : first_fault f ks r (free_in a.places r) ≡ Err (fault MessageFull k) → (clashes_in a.places r ≡ false) × (most_in_message ≤ used a.places)
  by_23 e = go (clashes_in a.places r) refl (ltb (used a.places) most_in_message) refl
    where
      go : (b : Bool) → clashes_in a.places r ≡ b → (c : Bool) → ltb (used a.places) most_in_message ≡ c → (clashes_in a.places r ≡ false) × (most_in_message ≤ used a.places)
      go true h c l = absurd (numbers_differ PlaceTaken MessageFull 7 (sym (clash a.places _ _ f ks r h) ∙ e) (λ z. omega (arith, ap number_of z)))
      go false h true l = absurd (sound_not_fault MessageFull k (sym (room a.places _ _ f ks r h (ltb-true _ _ l)) ∙ e))
      go false h false l = (h, ltb-false _ _ l)

-- ---- a place that is taken was taken by a 49 with that place
further : (r : List ℕ) (rs : List (List ℕ)) (p : ℕ) → TakenBefore rs p → TakenBefore (r ∷ rs) p
further r rs p t =
    record { before = r ∷ t.before; first = t.first; between = t.between; whole = ap (λ (l : List (List ℕ)). r ∷ l) t.whole; type = t.type; placed = t.placed; place = t.place; one = t.one }

nothing_taken : {A : Type 0} (p : ℕ) → taken 0 p ≡ true → A
nothing_taken p h = absurd (true≢false (sym h ∙ none_taken p))

no_30 : (r : List ℕ) (k : Kind) → eqb (number_of_kind k) 30 ≡ false → kind_of r ≡ k → kind_of r ≡ R30 → ⊥
no_30 r k h e x = true≢false (ap (λ (j : Kind). eqb (number_of_kind j) 30) (sym x ∙ e) ∙ h)

-- a place is taken by one of these records, or was taken before them in the same transaction
abbrev TakenIn : Assignment → List (List ℕ) → ℕ → Type 0
TakenIn a rs p = TakenBefore rs p ⊎ ((taken a.places.mask p ≡ true) × NoPayment rs)

taken_by_lem : (a : Assignment) (rs : List (List ℕ)) (p : ℕ) → taken (turns a rs).places.mask p ≡ true → TakenIn a rs p
unfolding turns NoPayment
taken_by_lem a [] p h = inr (h, tt)
taken_by_lem a (r ∷ rs) p h = go (taken_by_lem (turn r a) rs p h)
  where
    by_49 : kind_of r ≡ R49 → NoPayment rs → (b : Bool) → has_place r && eqb p (place_in r) ≡ b → b || taken a.places.mask p ≡ true → TakenIn a (r ∷ rs) p
    by_49 e n true q t =
        inl record { before = []; first = r; between = rs; whole = refl; type = e; placed = and_left _ _ q; place = sym (eqb-true p (place_in r) (and_right (has_place r) (eqb p (place_in r)) q)); one = n }
    by_49 e n false q t = inr (t, (no_30 r R49 refl e, n))

    there : (k : Kind) → kind_of r ≡ k → taken (turn_for k r a).places.mask p ≡ true → NoPayment rs → TakenIn a (r ∷ rs) p
    there R10 e t n = nothing_taken p t
    there R20 e t n = nothing_taken p t
    there R30 e t n = nothing_taken p t
    there R31 e t n = inr (t, (no_30 r R31 refl e, n))
    there R40 e t n = inr (t, (no_30 r R40 refl e, n))
    there R41 e t n = inr (t, (no_30 r R41 refl e, n))
    there R49 e t n = by_49 e n (has_place r && eqb p (place_in r)) refl (sym (taken_after a.places _ _ p) ∙ t)
    there R50 e t n = inr (t, (no_30 r R50 refl e, n))
    there R88 e t n = inr (t, (no_30 r R88 refl e, n))
    there R89 e t n = inr (t, (no_30 r R89 refl e, n))
    there Other e t n = inr (t, (no_30 r Other refl e, n))

    go : TakenIn (turn r a) rs p → TakenIn a (r ∷ rs) p
    go (inl t) = inl (further r rs p t)
    go (inr t) = there (kind_of r) refl t.0 t.1

-- ---- what a message has taken up is as many as the 49s since the 30
last_payment : (rs : List (List ℕ)) → NoPayment rs ⊎ LastPayment rs
unfolding NoPayment kind_for
last_payment [] = inl tt
last_payment (r ∷ rs) = go (last_payment rs) (eqb (number_of_kind (kind_of r)) 30) refl
  where
    go : NoPayment rs ⊎ LastPayment rs → (b : Bool) → eqb (number_of_kind (kind_of r)) 30 ≡ b → ((kind_of r ≡ R30 → ⊥) × NoPayment rs) ⊎ LastPayment (r ∷ rs)
    go (inr l) b e = inr record { before = r ∷ l.before; payment = l.payment; within = l.within; whole = ap (λ (x : List (List ℕ)). r ∷ x) l.whole; type = l.type; one = l.one }
    go (inl n) true e = inr record { before = []; payment = r; within = rs; whole = refl; type = type_by (kind_of r) 30 e; one = n }
    go (inl n) false e = inl (no_30 r (kind_of r) e refl, n)

none_used : used no_places ≡ 0
unfolding used ones
none_used = refl

module _ (m : Mode) (w : Window) where
  outside_stays : (f : Totals) (ks : List ℕ) (a : Assignment) (rs : List (List ℕ)) → Meets m w f ks a rs → NoPayment rs → Outside a → Outside (turns a rs)
  unfolding Meets NoPayment turns AllHold
  outside_stays f ks a [] h n o = o
  outside_stays f ks a (r ∷ rs) h n o = outside_stays (f ⊕ gain r) (ks ++ keys r) (turn r a) rs h.1 n.1 (outside_on m a (kind_of r) r n.0 h.0.1.0 o)

  used_since : (f : Totals) (ks : List ℕ) (a : Assignment) (rs : List (List ℕ)) → Meets m w f ks a rs → NoPayment rs
      → (used (turns a rs).places ≡ used a.places + count49 rs) ⊎ Outside (turns a rs)
  unfolding Meets NoPayment turns count49
  used_since f ks a [] h n = inl (omega arith)
  used_since f ks a (r ∷ rs) h n = go (eqb (number_of_kind (kind_of r)) 49) refl (used_since (f ⊕ gain r) (ks ++ keys r) (turn r a) rs h.1 n.1)
    where
      same : used (turns (turn r a) rs).places ≡ used (turn r a).places + count49 rs → ((turn r a).places ≡ a.places) ⊎ Outside (turn r a)
          → (used (turns (turn r a) rs).places ≡ used a.places + (0 + count49 rs)) ⊎ Outside (turns (turn r a) rs)
      same u (inl e) = inl (omega (arith, u, ap used e))
      same u (inr o) = inr (outside_stays (f ⊕ gain r) (ks ++ keys r) (turn r a) rs h.1 n.1 o)

      go : (b : Bool) → eqb (number_of_kind (kind_of r)) 49 ≡ b → (used (turns (turn r a) rs).places ≡ used (turn r a).places + count49 rs) ⊎ Outside (turns (turn r a) rs)
          → (used (turns (turn r a) rs).places ≡ used a.places + ((if b then 1 else 0) + count49 rs)) ⊎ Outside (turns (turn r a) rs)
      go b e (inr o) = inr o
      go true e (inl u) = inl (omega (arith, u, grown m w f ks a r (is_49 (kind_of r) e) h.0))
      go false e (inl u) = same u (others m w a (kind_of r) r n.0 e)

  -- behind a 30 the message has taken up nothing; what stands behind it leaves the last state
  module _ (a : Assignment) (rs : List (List ℕ)) (p : LastPayment rs) where
    abbrev begun : Assignment
    begun = turn p.payment (turns a p.before)

    ends : turns a rs ≡ turns begun p.within
    unfolding turns
    ends = ap (turns a) p.whole ∙ turns_join a p.before (p.payment ∷ p.within)

    clear : begun.places ≡ no_places
    clear = ap (λ (k : Kind). (turn_for k p.payment (turns a p.before)).places) p.type

    unplaced_since : ((turns a rs).places.unplaced ≤ 0) ⊎ SomeUnplaced p.within
    unplaced_since = go (unplaced_among begun p.within)
      where
        go : ((turns begun p.within).places.unplaced ≤ begun.places.unplaced) ⊎ SomeUnplaced p.within → ((turns a rs).places.unplaced ≤ 0) ⊎ SomeUnplaced p.within
        go (inl l) = inl (omega (arith, l, ap (λ (x : Places). x.unplaced) clear, ap (λ (s : Assignment). s.places.unplaced) ends))
        go (inr s) = inr s

    module _ (f : Totals) (ks : List ℕ) (h : Meets m w f ks a rs) where
      met : Meets m w (f ⊕ gains p.before ⊕ gain p.payment) (ks ++ all_keys p.before ++ keys p.payment) begun p.within
      unfolding Meets
      met = (meets_split m w f ks a p.before (p.payment ∷ p.within) (subst (Meets m w f ks a) p.whole h)).1.1

      few : count49 p.within ≤ most_in_message
      few = go (within_limit m w _ _ begun p.within [] (subst (Meets m w _ _ begun) (sym (append-nil p.within)) met) p.one)
        where
          go : Limited begun (count49 p.within) → count49 p.within ≤ most_in_message
          go (inl z) = omega (arith, z)
          go (inr l) = omega (arith, l)

      -- a 49 may follow: then it is as many as the 49s of the transaction
      used_is : may_follow m (turns a rs) R49 ≡ true → used (turns a rs).places ≡ count49 p.within
      used_is may = go (used_since _ _ begun p.within met p.one)
        where
          go : (used (turns begun p.within).places ≡ used begun.places + count49 p.within) ⊎ Outside (turns begun p.within) → used (turns a rs).places ≡ count49 p.within
          go (inl u) = omega (arith, u, ap used clear, none_used, ap (λ (s : Assignment). used s.places) ends)
          go (inr o) = absurd (none_behind m (turns begun p.within) (subst (λ (s : Assignment). may_follow m s R49 ≡ true) ends may) o)

  -- a 49 may stand behind these records, and its message is full: then it is full of 42 records
  module _ (f : Totals) (ks : List ℕ) (a : Assignment) (first : a.last ≡ Other) (none_yet : a.places ≡ no_places) (rs : List (List ℕ)) (h : Meets m w f ks a rs)
      (may : may_follow m (turns a rs) R49 ≡ true) (l : most_in_message ≤ used (turns a rs).places) where
    -- at first only a 10 may stand
    started : NoPayment rs → ⊥
    unfolding Meets turns NoPayment AllHold may_follow kind_for
    started n = go rs h may l n
      where
        go : (rs : List (List ℕ)) → Meets m w f ks a rs → may_follow m (turns a rs) R49 ≡ true → most_in_message ≤ used (turns a rs).places → NoPayment rs → ⊥
        go [] h may l n = omega (arith, l, ap used none_yet, none_used)
        go (r ∷ rs) h may l n =
            let ten : kind_of r ≡ R10 = type_by (kind_of r) 10 (only (number_of_kind (kind_of r)) 10 (sym (ap (λ (j : Kind). member (number_of_kind (kind_of r)) (behind m j a.service a.code)) first) ∙ h.0.1.0)) in
            none_behind m (turns (turn r a) rs) may (outside_stays (f ⊕ gain r) (ks ++ keys r) (turn r a) rs h.1 n.1 (inr (ap (λ (j : Kind). (turn_for j r a).last) ten)))

    full_before : FullMessage rs
    full_before = go (last_payment rs)
      where
        go : NoPayment rs ⊎ LastPayment rs → FullMessage rs
        go (inl n) = absurd (started n)
        go (inr p) = record { last = p; count = omega (arith, l, few a rs p f ks h, used_is a rs p f ks h may) }

    -- of these and one more that does not clash, one is without a place: else 43 places would be taken
    some_unplaced : (p : LastPayment rs) (r : List ℕ) → kind_of r ≡ R49 → (line_in r ≤ 21) × (column_in r ≤ 2) → clashes_in (turns a rs).places r ≡ false → SomeUnplaced (r ∷ p.within)
    unfolding SomeUnplaced used
    some_unplaced p r e bounds c = go (has_place r) refl (unplaced_since a rs p)
      where
        all_placed : has_place r ≡ true → (turns a rs).places.unplaced ≤ 0 → ⊥
        all_placed q u =
            let mask = of_places_lem m w f ks a rs h (subst (λ (x : Places). OfPlaces x.mask) (sym none_yet) no_place) in
            let more = one_place_more (turns a rs).places.mask (place_in r) (sym (placed_clashes _ _ _ q) ∙ c) in
            let most = most_places _ (placed_more (turns a rs).places (line_in r) (column_in r) q bounds.0 bounds.1 mask) in
            omega (arith, l, u, more, most)

        go : (b : Bool) → has_place r ≡ b → ((turns a rs).places.unplaced ≤ 0) ⊎ SomeUnplaced p.within → ((kind_of r ≡ R49) × (has_place r ≡ false)) ⊎ SomeUnplaced p.within
        go false q u = inl (e, q)
        go true q (inr s) = inr s
        go true q (inl u) = absurd (all_placed q u)

-- ---- the theorems
-- what a refusal with such a reason says
refused_parts : (n : Reason) (i k : ℕ) (n' : Reason) (i' k' : ℕ) → refused n 0 i k ≡ refused n' 0 i' k' → (n ≡ n') × (i ≡ i') × (k ≡ k')
refused_parts n i k n' i' k' e =
    let same : refusal n 0 i k ≡ refusal n' 0 i' k' = cc in
    (ap (λ (x : Refusal). x.reason) same, ap (λ (x : Refusal). x.«record») same, ap (λ (x : Refusal). x.field) same)

not_of_places : {A : Type 0} (o : Reason) (i k : ℕ) (n : Reason) (i' k' : ℕ) → of_places n ≡ true → of_places o ≡ false → refused o 0 i k ≡ refused n 0 i' k' → A
not_of_places o i k n i' k' q h x = absurd (true≢false (sym q ∙ ap of_places (sym (refused_parts o i k n i' k' x).0) ∙ h))

record Faulted (m : Mode) (rs : List (List ℕ)) (n : Reason) (i k : ℕ) : Type 0 where
  window : Window
  j : ℕ
  fault : FirstFault m window none [] start.assignment rs j n k
  place : j + 1 ≡ i

faulted : (m : Mode) (w : Window) (rs : List (List ℕ)) (j : ℕ) (n' : Reason) (k' : ℕ) (n : Reason) (i k : ℕ) → FirstFault m w none [] start.assignment rs j n' k' → refused n' 0 (j + 1) k' ≡ refused n 0 i k → Faulted m rs n i k
faulted m w rs j n' k' n i k f x =
    let same = refused_parts n' (j + 1) k' n i k x in
    record {
      window = w;
      j = j;
      fault = subst (λ (z : Reason). FirstFault m w none [] start.assignment rs j z k) same.0 (subst (λ (z : ℕ). FirstFault m w none [] start.assignment rs j n' z) same.2 f);
      place = same.1;
    }

of_file : (day : ProcessDay) (b : List ℕ) (n : Reason) (i k : ℕ) → of_places n ≡ true → check_of day b ≡ refused n 0 i k → Faulted File (records_of b) n i k
of_file day b n i k q e = go _ refl ((refused_first day b (refusal n 0 i k)).0 e)
  where
    go : (v : Verdict) → v ≡ refused n 0 i k → Refusing day b v → Faulted File (records_of b) n i k
    go v x (wrong_day o) = not_of_places NoProcessDay 0 0 n i k q refl x
    go v x (wrong_length w o p) = not_of_places BrokenLength 0 0 n i k q refl x
    go v x (too_many w o p s) = not_of_places TooManyRecords 0 0 n i k q refl x
    go v x (at_record w j n' k' o p s f) = faulted File w (records_of b) j n' k' n i k f x
    go v x (at_end w o p s h y) = not_of_places EndsEarly (length (records_of b) + 1) 0 n i k q refl x

of_draft : (day : ProcessDay) (d : List ℕ) (room : ℕ) (n : Reason) (i k : ℕ) → of_places n ≡ true → close_of day d room ≡ refused n 0 i k → Faulted Draft (records_of d) n i k
of_draft day d room n i k q e = go _ refl ((close_order day d room (refusal n 0 i k)).0 e)
  where
    go : (v : Verdict) → v ≡ refused n 0 i k → CloseRefusing day d room v → Faulted Draft (records_of d) n i k
    go v x (draft.wrong_day o) = not_of_places NoProcessDay 0 0 n i k q refl x
    go v x (draft.wrong_length w o p) = not_of_places BrokenLength 0 0 n i k q refl x
    go v x (draft.too_many w o p s) = not_of_places TooManyRecords 0 0 n i k q refl x
    go v x (draft.at_record w j n' k' o p s f) = faulted Draft w (records_of d) j n' k' n i k f x
    go v x (draft.at_end w o p s h y) = not_of_places EndsEarly (length (records_of d) + 1) 0 n i k q refl x
    go v x (draft.last_group w o p s h y z) = not_of_places NotAddedUp (length (records_of d) + 1) 0 n i k q refl x
    go v x (draft.short_output h y) = not_of_places NoRoom 0 0 n i k q refl x

module _ (m : Mode) (rs : List (List ℕ)) (n : Reason) (i k : ℕ) (q : of_places n ≡ true) (v : Faulted m rs n i k) where
  -- the state that the records before it leave, and what the refused record finds there
  abbrev left : Assignment
  left = turns start.assignment v.fault.before

  refused_49 : Of49 m (none ⊕ gains v.fault.before) ([] ++ all_keys v.fault.before) v.fault.here left n k
  refused_49 =
      let x = v.fault in
      of_49 m v.window _ _ x.here left n k q
      (broken_so _ _ x.here _ n k record { held = x.held; row = x.row; unseen = x.unseen; table = x.table; hold = x.hold; fails = x.fails; reason = x.reason; field = x.field })

  told : (P : List (List ℕ) → List ℕ → Type 0) → P v.fault.before v.fault.here → At49 rs i P
  told P p =
      let x = v.fault in
      record { before = x.before; here = x.here; behind = x.behind; whole = x.whole; place = ap (λ (j : ℕ). j + 1) x.place ∙ v.place; type = refused_49.type; found = p }

-- the place of a 49 that clashes is that of an earlier one
clashed_with : (a : Assignment) (before : List (List ℕ)) (r : List ℕ) → a.places ≡ no_places → clashes_in (turns a before).places r ≡ true → Clash before r
clashed_with a before r clear c = go (has_place r) refl
  where
    earlier : TakenIn a before (place_in r) → TakenBefore before (place_in r)
    earlier (inl t) = t
    earlier (inr t) = nothing_taken (place_in r) (sym (ap (λ (x : Places). taken x.mask (place_in r)) clear) ∙ t.0)

    go : (p : Bool) → has_place r ≡ p → Clash before r
    go true p = (p, earlier (taken_by_lem a before (place_in r) (sym (placed_clashes _ _ _ p) ∙ c)))
    go false p = absurd (true≢false (sym c ∙ unplaced_free _ _ _ p))

clash_at : (m : Mode) (rs : List (List ℕ)) (i k : ℕ) → Faulted m rs PlaceTaken i k → At49 rs i Clash
clash_at m rs i k v =
    let a = left m rs PlaceTaken i k refl v in
    told m rs PlaceTaken i k refl v Clash (clashed_with start.assignment v.fault.before v.fault.here refl (by_17 _ _ v.fault.here a k (refused_49 m rs PlaceTaken i k refl v).found))

full_at : (m : Mode) (rs : List (List ℕ)) (i k : ℕ) → Faulted m rs MessageFull i k → At49 rs i OneTooMany
full_at m rs i k v =
    let x = v.fault in
    let found = refused_49 m rs MessageFull i k refl v in
    let past = by_23 _ _ x.here (left m rs MessageFull i k refl v) k found.found in
    let full = full_before m v.window none [] start.assignment refl refl x.before x.meets found.follows past.1 in
    told m rs MessageFull i k refl v OneTooMany
    (full, some_unplaced m v.window none [] start.assignment refl refl x.before x.meets found.follows past.1 full.last x.here found.type found.bounds past.0)

-- 17 is given to a 49 with a place alone, and only where an earlier 49 of its transaction has that place: one without a place clashes with nothing, and nothing with it
pub unplaced_never_clash : (day : ProcessDay) (b : List ℕ) (i k : ℕ) → check_of day b ≡ refused PlaceTaken 0 i k → At49 (records_of b) i Clash
unplaced_never_clash day b i k e = clash_at File (records_of b) i k (of_file day b PlaceTaken i k refl e)

pub unplaced_in_drafts : (day : ProcessDay) (d : List ℕ) (room i k : ℕ) → close_of day d room ≡ refused PlaceTaken 0 i k → At49 (records_of d) i Clash
unplaced_in_drafts day d room i k e = clash_at Draft (records_of d) i k (of_draft day d room PlaceTaken i k refl e)

-- 23 is given to a 49 alone, and only where its transaction has 42 of them before it; one of the 43 is without a place
pub full_at_42 : (day : ProcessDay) (b : List ℕ) (i k : ℕ) → check_of day b ≡ refused MessageFull 0 i k → At49 (records_of b) i OneTooMany
full_at_42 day b i k e = full_at File (records_of b) i k (of_file day b MessageFull i k refl e)

pub full_in_drafts : (day : ProcessDay) (d : List ℕ) (room i k : ℕ) → close_of day d room ≡ refused MessageFull 0 i k → At49 (records_of d) i OneTooMany
full_in_drafts day d room i k e = full_at Draft (records_of d) i k (of_draft day d room MessageFull i k refl e)

-- behind 42 of them no 49 is sound: 17 where its place is taken, else 23
pub forty_third : (m : Mode) (w : Window) (f g : Totals) (ks ls : List ℕ) (a : Assignment) (rs : List (List ℕ)) (r : List ℕ) → Meets m w f ks a rs → FullMessage rs
    → may_follow m (turns a rs) R49 ≡ true → AllHold g ls r (up_to_column (turns a rs) r)
    → (first_fault g ls r (record49 (turns a rs) r) ≡ Err (fault PlaceTaken 7)) ⊎ (first_fault g ls r (record49 (turns a rs) r) ≡ Err (fault MessageFull 7))
forty_third m w f g ks ls a rs r h full may held = go (clashes_in (turns a rs).places r) refl
  where
    filled : most_in_message ≤ used (turns a rs).places
    filled = omega (arith, full.count, used_is m w a rs full.last f ks h may)

    go : (b : Bool) → clashes_in (turns a rs).places r ≡ b → (first_fault g ls r (record49 (turns a rs) r) ≡ Err (fault PlaceTaken 7)) ⊎ (first_fault g ls r (record49 (turns a rs) r) ≡ Err (fault MessageFull 7))
    go true e = inl (place_repeated g ls r (turns a rs) held e)
    go false e = inr (message_full g ls r (turns a rs) held e filled)
