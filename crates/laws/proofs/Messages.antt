-- The places of a message, in a file or a draft of either service: no two 49s of a transaction take one place, and there are at most 42 of them. A place that is taken gives 17 at field 7, a message that is full 23.
-- Assumes nothing.
use Rattle.std.proofs.Common.{Ok, Err}
use Prim.Native.Nat.{ℕ, ◌≤◌}
use mathlib.Core.Logic.{◌⊎◌, inl, inr}
use mathlib.Core.Path.{◌≡◌, refl, sym, ap, ap₂, subst, ◌∙◌}
use mathlib.Core.List.{List, [], ◌∷◌, ◌++◌, append_assoc}
use mathlib.Core.Bool.{Bool, true, false, ◌&&◌, ◌||◌, true≢false}
use native.Mathlib.Omega.{arith}
use borrow.Author.Tests.{eq-eqb}
use lib.Dec.{eqb}
use Rattle.limits.specs.Limits.{most_in_message}
use Rattle.dates.specs.declared.ProcessDay.{ProcessDay}
use Rattle.dates.specs.declared.Window.{Window}
use Rattle.figures.specs.Totals.{none}
use Rattle.figures.specs.declared.totals.Totals.{Totals}
use Rattle.services.specs.Services.{code_for}
use Rattle.services.specs.declared.Service.{Service}
use Rattle.layout.specs.Rules.{textual, zeros}
use Rattle.layout.specs.Findings.{or_else}
use Rattle.layout.specs.Rows.{Row, first_fault, AllHold}
use Rattle.layout.proofs.Laws.{pieces, sound_of_all}
use Rattle.rules.specs.Codes.{kind_of, service_code}
use Rattle.rules.specs.Fields.{on, message_of}
use Rattle.rules.specs.Growth.{turn_for, turn, start}
use Rattle.rules.specs.Layouts.{repeats, notification49, record49, rows}
use Rattle.rules.specs.Messages.{taken, place_of, is_place, used, place_at, has_place_at, place_in, has_place, clashes_in}
use Rattle.rules.specs.Order.{may_follow}
use Rattle.rules.specs.Payments.{line, column}
use Rattle.rules.specs.Run.{records_of, check_of}
use Rattle.rules.specs.declared.Assignment.{Assignment}
use Rattle.rules.specs.declared.Kind.{Kind}
use Rattle.rules.specs.declared.Kind.TheVariants.{R10, R20, R30, R31, R40, R41, R49, R50, R88, R89, Other}
use Rattle.rules.specs.declared.Mode.{Mode}
use Rattle.rules.proofs.Free.{clash, full}
use Rattle.rules.proofs.Mask.{taken_after}
use Rattle.operations.specs.Closing.{close_of}
use Rattle.laws.specs.Meets.{turns, Meets}
use Rattle.laws.specs.Messages.{NoPayment, SameTransaction, Apart, count49, Stretch}
use Rattle.laws.proofs.Closing.{draft_closes_exactly}
use Rattle.laws.proofs.Demand2.{accepting}
use Rattle.laws.proofs.Sound.{meets_split}
use Rattle.laws.proofs.Transactions.{Outside, Limited, free_in, outside_on, of_service, free, inside, within_limit}
use Rattle.layout.specs.Findings.{Finding, fault}
use Rattle.layout.specs.declared.Reason.TheVariants.{PlaceTaken, MessageFull}
use Rattle.layout.specs.declared.Reason.{Reason}

-- what a 49 left in an assignment of this service, its place if it has one (t); or no transaction has begun since a 20 or a 10
record Taken (v : Service) (t : Bool) (p : ℕ) (a : Assignment) : Type 0 where
  place : t ≡ true → taken a.places.mask p ≡ true
  service : a.service ≡ v

abbrev Held : Service → Bool → ℕ → Assignment → Type 0
Held v t p a = Taken v t p a ⊎ Outside a

-- a place is its own
own_place : (b c : Bool) (p : ℕ) → b ≡ true → (b && eqb p p) || c ≡ true
own_place b c p h = ap₂ (λ (x y : Bool). (x && y) || c) h (eq-eqb p p refl)

or_true : (b : Bool) {c : Bool} → c ≡ true → b || c ≡ true
or_true true e = refl
or_true false e = e

-- a place stays taken until the next record 30
stays : (v : Service) (b : Bool) (p : ℕ) (a : Assignment) (k : Kind) (r : List ℕ) → (k ≡ R30 → ⊥) → Taken v b p a → Held v b p (turn_for k r a)
stays v b p a R10 r n t = inr (inr refl)
stays v b p a R20 r n t = inr (inl refl)
stays v b p a R30 r n t = absurd (n refl)
stays v b p a R31 r n t = inl record { place = t.place; service = t.service }
stays v b p a R40 r n t = inl record { place = t.place; service = t.service }
stays v b p a R41 r n t = inl record { place = t.place; service = t.service }
stays v b p a R49 r n t = inl record { place = λ h. taken_after a.places _ _ p ∙ or_true (has_place r && eqb p (place_in r)) (t.place h); service = t.service }
stays v b p a R50 r n t = inl record { place = t.place; service = t.service }
stays v b p a R88 r n t = inl record { place = t.place; service = t.service }
stays v b p a R89 r n t = inl record { place = t.place; service = t.service }
stays v b p a Other r n t = inl t

held_on : (m : Mode) (v : Service) (b : Bool) (p : ℕ) (a : Assignment) (k : Kind) (r : List ℕ) → (k ≡ R30 → ⊥) → may_follow m a k ≡ true → Held v b p a → Held v b p (turn_for k r a)
held_on m v b p a k r n h (inl t) = stays v b p a k r n t
held_on m v b p a k r n h (inr o) = inr (outside_on m a k r n h o)

-- no 49 stands outside transactions, so where a place is held, it is taken
still : (m : Mode) (w : Window) (f : Totals) (ks : List ℕ) (a : Assignment) (r : List ℕ) → kind_of r ≡ R49 → AllHold f ks r (rows m w a r) → (v : Service) (b : Bool) (p : ℕ) → Held v b p a → Taken v b p a
still m w f ks a r e h v b p (inl t) = t
still m w f ks a r e h v b p (inr o) = absurd (inside m w f ks a r e h o)

-- the first of two takes its place, and the second finds it taken
module _ (m : Mode) (w : Window) (v : Service) (r s : List ℕ) (o : service_code r ≡ code_for v) (e : kind_of s ≡ R49) where
  met : (f : Totals) (ks : List ℕ) (a : Assignment) → AllHold f ks s (rows m w a s) → Held v (has_place r) (place_in r) a → Apart r s
  met f ks a h t =
      let found = still m w f ks a s e h v (has_place r) (place_in r) t in
      let service : service_code r ≡ service_code s = o ∙ ap code_for (sym found.service) ∙ sym (of_service m w f ks a s e h) in
      let places : has_place r ≡ true → has_place s ≡ true → place_in r ≡ place_in s → ⊥ = λ x y q. true≢false (sym (found.place x) ∙ ap (taken a.places.mask) q ∙ free m w f ks a s e h y) in
      record {
        service = service;
        places = places;
        fields = λ p x y.
            places p (sym (ap (λ (c : ℕ). has_place_at (message_of c) s) service) ∙ sym (ap₂ is_place x.numbers y.numbers) ∙ p)
            (ap₂ place_of x.numbers y.numbers ∙ ap (λ (c : ℕ). place_at (message_of c) s) service);
      }

  walked : (between rest : List (List ℕ)) (f : Totals) (ks : List ℕ) (a : Assignment) → Meets m w f ks a (between ++ (s ∷ rest)) → NoPayment between → Held v (has_place r) (place_in r) a → Apart r s
  unfolding Meets NoPayment AllHold
  walked [] rest f ks a h n t = met f ks a h.0 t
  walked (x ∷ between) rest f ks a h n t = walked between rest _ _ (turn x a) h.1 n.1 (held_on m v (has_place r) (place_in r) a (kind_of x) x n.0 h.0.1.0 t)

apart : (m : Mode) (w : Window) (f : Totals) (ks : List ℕ) (a : Assignment) (rs : List (List ℕ)) (r s : List ℕ) → Meets m w f ks a rs → SameTransaction rs r s → Apart r s
unfolding Meets
apart m w f ks a rs r s h t =
    let met = (meets_split m w f ks a t.before (r ∷ (t.between ++ (s ∷ t.behind))) (subst (Meets m w f ks a) t.whole h)).1 in
    let st = turns a t.before in
    let took : Taken st.service (has_place r) (place_in r) (turn r st) = record {
      place = λ p. ap (λ (k : Kind). taken (turn_for k r st).places.mask (place_in r)) t.first ∙ taken_after st.places _ _ (place_in r) ∙ own_place (has_place r) _ (place_in r) p;
      service = ap (λ (k : Kind). (turn_for k r st).service) t.first;
    } in
    walked m w st.service r s (of_service m w _ _ st r t.first met.0) t.second t.between t.behind _ _ _ met.1 t.one (inl took)

-- in an accepted file, and in a draft that is closed, two 49s of a transaction have different places, whatever the service
pub places_both_services : (day : ProcessDay) (b : List ℕ) (t : Totals) → check_of day b ≡ Ok t → (r s : List ℕ) → SameTransaction (records_of b) r s → Apart r s
places_both_services day b t e r s h = let v = accepting day b t e in apart _ v.window none [] start.assignment (records_of b) r s v.ran.meets h

pub places_in_drafts : (day : ProcessDay) (d : List ℕ) (room : ℕ) (t : Totals) → close_of day d room ≡ Ok t → (r s : List ℕ) → SameTransaction (records_of d) r s → Apart r s
places_in_drafts day d room t e r s h = let v = ((draft_closes_exactly day d room).0 (t, e)).0 in apart _ v.window none [] start.assignment (records_of d) r s v.meets h

-- the rows of a 49 up to its column, and that they hold
abbrev pub up_to_column : Assignment → List ℕ → List Row
up_to_column a r = repeats a r ++ notification49 (service_code r) ++ (on (message_of (service_code r)).line line ∷ on (message_of (service_code r)).column column ∷ [])

module _ (f : Totals) (ks r : List ℕ) (a : Assignment) (h : AllHold f ks r (up_to_column a r)) where
  -- then the table gives what line and column find of the message
  behind_column : (n : Reason) → first_fault f ks r (free_in a.places r) ≡ Err (fault n 7) → first_fault f ks r (record49 a r) ≡ Err (fault n 7)
  behind_column n e =
      let m = message_of (service_code r) in
      let code = notification49 (service_code r) in
      let sound : List Row = on m.line line ∷ on m.column column ∷ [] in
      let found = free_in a.places r in
      let rest : List Row = on m.text textual ∷ on m.filler zeros ∷ [] in
      let held = up_to_column a r in
      ap (λ (l : List Row). first_fault f ks r (repeats a r ++ l)) (sym (append_assoc code sound (found ++ rest)))
      ∙ pieces f ks r held (found ++ rest)
      ∙ ap (λ (x : Finding). or_else x (first_fault f ks r (found ++ rest))) (sound_of_all f ks r held h)
      ∙ pieces f ks r found rest
      ∙ ap (λ (x : Finding). or_else x (first_fault f ks r rest)) e

  -- a place that is taken gives 17 at field 7, whatever the service
  pub place_repeated : clashes_in a.places r ≡ true → first_fault f ks r (record49 a r) ≡ Err (fault PlaceTaken 7)
  place_repeated c = behind_column PlaceTaken (clash a.places _ _ f ks r c)

  -- a full message gives 23 at field 7, but where the place is taken too
  pub message_full : clashes_in a.places r ≡ false → most_in_message ≤ used a.places → first_fault f ks r (record49 a r) ≡ Err (fault MessageFull 7)
  message_full p l = behind_column MessageFull (full a.places _ _ f ks r p l)

-- ---- at most 42
few : (m : Mode) (w : Window) (f : Totals) (ks : List ℕ) (a : Assignment) (rs within : List (List ℕ)) → Meets m w f ks a rs → Stretch rs within → count49 within ≤ most_in_message
few m w f ks a rs within h t = go (turns a t.before) (within_limit m w _ _ _ within t.behind (meets_split m w f ks a t.before (within ++ t.behind) (subst (Meets m w f ks a) t.whole h)).1 t.one)
  where
    go : (st : Assignment) → Limited st (count49 within) → count49 within ≤ most_in_message
    go st (inl z) = omega (arith, z)
    go st (inr l) = omega (arith, l)

-- a transaction of an accepted file, and of a draft that is closed, has at most 42 records 49, placed or not
pub at_most_42 : (day : ProcessDay) (b : List ℕ) (t : Totals) → check_of day b ≡ Ok t → (within : List (List ℕ)) → Stretch (records_of b) within → count49 within ≤ most_in_message
at_most_42 day b t e within h = let v = accepting day b t e in few _ v.window none [] start.assignment (records_of b) within v.ran.meets h

pub at_most_42_in_drafts : (day : ProcessDay) (d : List ℕ) (room : ℕ) (t : Totals) → close_of day d room ≡ Ok t → (within : List (List ℕ)) → Stretch (records_of d) within
    → count49 within ≤ most_in_message
at_most_42_in_drafts day d room t e within h = let v = ((draft_closes_exactly day d room).0 (t, e)).0 in few _ v.window none [] start.assignment (records_of d) within v.meets h
