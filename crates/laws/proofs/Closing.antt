-- Demand 2 for closing, on bytes: the written file is accepted with its figures, has the draft's records, and is the one such file;
-- a draft is closed exactly when it breaks no rule and has room, else refused with the first reason.
-- Assumes nothing.
use Prim.Native.Nat.{ℕ, ◌+◌, ◌*◌, ◌/◌, ◌≤◌, ◌<◌}
use mathlib.Core.Path.{◌≡◌, refl, sym, ap, subst, ◌∙◌}
use mathlib.Core.Logic.{◌↔◌, ◌⊎◌, inl, inr}
use mathlib.Core.List.{List, [], ◌∷◌, ◌++◌}
use mathlib.Core.Bool.{Bool, true, false, false≢true}
use native.Mathlib.Nat.{add-zero}
use native.Mathlib.Omega.{arith}
use borrow.Author.Tests.{ltb-true}
use lib.ListN.{length, drop}
use Rattle.dates.specs.declared.ProcessDay.{ProcessDay}
use Rattle.dates.specs.declared.Window.{Window}
use Rattle.dates.proofs.Laws.{earlier_none}
use Rattle.figures.specs.Figures.{amount, count}
use Rattle.figures.specs.Totals.{none, ◌⊕◌}
use Rattle.figures.specs.declared.totals.Totals.{Totals}
use Rattle.figures.proofs.Laws.{none-⊕}
use Rattle.rules.specs.Order.{may_end}
use Rattle.rules.specs.Growth.{start}
use Rattle.std.specs.Prelude.{if◌then◌else◌, Ok, Err}
use Rattle.limits.specs.Limits.{record_bytes, most_records}
use Rattle.rules.specs.Run.{records_of, check_of}
use Rattle.rules.specs.declared.Mode.TheVariants.{File, Draft}
use Rattle.rules.specs.declared.Refusal.{Refusal}
use Rattle.operations.specs.Closing.{opens, openings, to_write, closed_figures, close_of, with_ends, bytes_of, closed_file, lent_after, closed_bytes}
use Rattle.laws.specs.Meets.{gains, turns, Meets, Ends, Lawful}
use Rattle.laws.specs.Plain.{FiguresOf}
use Rattle.laws.specs.View.{Sized}
use Rattle.laws.specs.Stripped.{strip, stripped}
use Rattle.laws.specs.Closable.{LawfulDraft, FileFor, CloseRefusing}
use Rattle.laws.proofs.Frame.{fitted}
use Rattle.laws.proofs.Demand2.{Accepting, accepting, accepts, figures_of_records, one_figures}
use Rattle.laws.proofs.Bytes.{Whole, whole, whole_length, whole_bytes, record_count, bytes_length, records_again, bytes_again, sized_records}
use Rattle.laws.proofs.Follows.{at_88}
use Rattle.laws.proofs.EndsPut.{sized_ends, sized_strip, gains_records, gains_openings, ends_add}
use Rattle.laws.proofs.Closes.{Drafted, Closed, closes, stands_behind}
use Rattle.laws.proofs.Strips.{Stripped, strips}
use Rattle.laws.proofs.Weighs.{Closing, closes_so, refusing, refuses_so, sound_and_room, room_and_sound}
pub use Rattle.laws.proofs.Weighs.{closing}
use Rattle.rules.specs.Refusals.{Verdict}

-- ---- on records: an accepted draft
module _ (w : Window) (ds : List (List ℕ)) (meets : Meets Draft w none [] start.assignment ds) (ends : Ends Draft (turns start.assignment ds)) where
  -- it opens an assignment, so an 88 is written for each that it opens
  opens_some : 0 < openings ds
  unfolding may_end
  opens_some =
      let s = stands_behind w none [] start.assignment ds refl meets in
      omega (arith, ltb-true 0 (0 + (gains ds).assignments.0) (at_88 (turns start.assignment ds) (none ⊕ gains ds) s ends.may).0, gains_openings ds)

  figures_written : gains (with_ends start ds) ≡ closed_figures (gains ds)
  figures_written =
      let v = ends_add start ds (omega (arith, opens_some)) in
      let n : (gains ds).records.0 + v.ends ≡ (gains ds).records.0 + (gains ds).assignments.0 + 1 = omega (arith, v.many, gains_openings ds) in
      v.adds ∙ (λ i. record {
        assignments = count (add-zero (gains ds).assignments.0 i);
        transactions = count (add-zero (gains ds).transactions.0 i);
        records = count (n i);
        sum = amount (add-zero (gains ds).sum.0 i);
        first = earlier_none (gains ds).first i;
      })

  -- as many records as refusal 3 counts
  records_written : length (with_ends start ds) ≡ to_write ds
  records_written =
      omega (arith, gains_records (with_ends start ds), ap (λ (t : Totals). t.records.0) figures_written, gains_records ds, gains_openings ds)

  drafted : to_write ds ≤ most_records → Drafted w start [] ds
  drafted few =
      record {
        place = refl;
        below = omega arith;
        fits = fitted Draft w none [] start.assignment ds (omega arith) (omega arith) meets;
        few = omega (arith, few, gains_records ds, gains_openings ds);
        meets = meets;
        ends = ends;
      }

-- ---- the written file
module _ (day : ProcessDay) (d : List ℕ) (room : ℕ) (t : Totals) (c : Closing day d room t) where
  put : List (List ℕ)
  put = with_ends start (records_of d)

  closed : Closed c.draft.window start [] (records_of d)
  closed = closes c.draft.window start [] (records_of d) (drafted c.draft.window (records_of d) c.draft.meets c.draft.ends c.draft.few)

  put_sized : Sized put
  unfolding put
  put_sized = sized_ends start (records_of d) (sized_records d (whole d c.draft.lengthy))

  put_records : records_of (closed_file d) ≡ put
  unfolding closed_file put
  put_records = records_again put put_sized

  put_count : length put ≡ to_write (records_of d)
  unfolding put
  put_count = records_written c.draft.window (records_of d) c.draft.meets c.draft.ends

  lawful : Lawful day (closed_file d)
  unfolding closed_file put
  lawful =
      record {
        window = c.draft.window;
        opened = c.draft.opened;
        lengthy = whole_length (closed_file d) (whole_bytes put put_sized (omega (arith, put_count)));
        few = omega (arith, put_count, c.draft.few, record_count (closed_file d), ap length put_records);
        meets = subst (Meets File c.draft.window none [] start.assignment) (sym put_records) closed.meets;
        ends = subst (λ (rs : List (List ℕ)). Ends File (turns start.assignment rs)) (sym put_records) closed.ends;
      }

  put_gains : gains (records_of (closed_file d)) ≡ t
  unfolding put
  put_gains = ap gains put_records ∙ figures_written c.draft.window (records_of d) c.draft.meets c.draft.ends ∙ sym c.figures

  put_length : length (closed_file d) ≡ 81 * t.records.0
  unfolding closed_file put
  put_length =
      bytes_length put put_sized
      ∙ ap (λ (n : ℕ). 81 * n) (sym (ap length put_records) ∙ sym (gains_records (records_of (closed_file d))) ∙ ap (λ (x : Totals). x.records.0) put_gains)

  put_back : stripped (closed_file d) ≡ d
  unfolding stripped put
  put_back = ap (λ (rs : List (List ℕ)). bytes_of (strip rs)) put_records ∙ ap bytes_of closed.back ∙ bytes_again d (whole d c.draft.lengthy)

-- ---- the stripped file
some_records : (rs : List (List ℕ)) → 0 < openings rs → 0 < length rs
unfolding openings
some_records [] h = h
some_records (r ∷ rs) h = omega arith

module _ (day : ProcessDay) (b : List ℕ) (t : Totals) (a : Accepting day b t) where
  bare : List (List ℕ)
  bare = strip (records_of b)

  b_whole : Whole b
  b_whole = whole b a.lengthy

  taken : Stripped a.window false start [] (records_of b)
  taken = strips a.window false start [] (records_of b) record {
    place = refl;
    whole = λ z. absurd (false≢true z);
    sized = sized_records b b_whole;
    fits = fitted File a.window none [] start.assignment (records_of b) (omega arith) (omega arith) a.ran.meets;
    meets = a.ran.meets;
    ends = a.ran.ends;
  }

  bare_sized : Sized bare
  unfolding bare
  bare_sized = sized_strip (records_of b) (sized_records b b_whole)

  bare_records : records_of (stripped b) ≡ bare
  unfolding stripped bare
  bare_records = records_again bare bare_sized

  closed_again : closed_file (stripped b) ≡ b
  unfolding closed_file bare
  closed_again = ap (λ (rs : List (List ℕ)). bytes_of (with_ends start rs)) bare_records ∙ ap bytes_of taken.same ∙ bytes_again b b_whole

  t_gains : t ≡ gains (records_of b)
  t_gains = a.ran.total ∙ none-⊕ (gains (records_of b))

  t_length : 81 * t.records.0 ≡ length b
  t_length =
      let n : t.records.0 ≡ length b / 81 = ap (λ (x : Totals). x.records.0) t_gains ∙ gains_records (records_of b) ∙ record_count b in
      ap (λ (n : ℕ). 81 * n) n ∙ sym b_whole.exact

  closes_again : (room : ℕ) → length b ≤ room → Closing day (stripped b) room t
  unfolding stripped bare
  closes_again room fits =
      let n = records_written a.window bare taken.meets taken.ends in
      let some = some_records bare (opens_some a.window bare taken.meets taken.ends) in
      let few : to_write bare ≤ most_records = omega (arith, n, ap length taken.same, record_count b, a.few) in
      record {
        draft = record {
          window = a.window;
          opened = a.opened;
          lengthy = whole_length (stripped b) (whole_bytes bare bare_sized some);
          few = subst (λ (rs : List (List ℕ)). to_write rs ≤ most_records) (sym bare_records) few;
          meets = subst (Meets Draft a.window none [] start.assignment) (sym bare_records) taken.meets;
          ends = subst (λ (rs : List (List ℕ)). Ends Draft (turns start.assignment rs)) (sym bare_records) taken.ends;
        };
        figures =
            t_gains ∙ ap gains (sym taken.same) ∙ figures_written a.window bare taken.meets taken.ends
            ∙ ap (λ (rs : List (List ℕ)). closed_figures (gains rs)) (sym bare_records);
        fits = omega (arith, t_length, fits);
      }

-- ---- THE THEOREMS
-- what closing writes is accepted, with the figures that closing answers
pub closed_accepted : (day : ProcessDay) (d : List ℕ) (room : ℕ) (t : Totals) → close_of day d room ≡ Ok t → check_of day (closed_file d) ≡ Ok t
closed_accepted day d room t e =
    let c = closing day d room t e in
    accepts day (closed_file d) (lawful day d room t c) ∙ ap Ok (put_gains day d room t c)

-- it has as many records as they say, and fits into the output
pub closed_fits : (day : ProcessDay) (d : List ℕ) (room : ℕ) (t : Totals) → close_of day d room ≡ Ok t
    → (length (closed_file d) ≡ record_bytes * t.records.0) × (length (closed_file d) ≤ room)
closed_fits day d room t e =
    let c = closing day d room t e in
    let l = put_length day d room t c in
    (l, omega (arith, l, c.fits))

-- stripped of its ends it is the draft
pub closed_keeps : (day : ProcessDay) (d : List ℕ) (room : ℕ) (t : Totals) → close_of day d room ≡ Ok t → stripped (closed_file d) ≡ d
closed_keeps day d room t e = put_back day d room t (closing day d room t e)

-- its figures are those of its records
pub closed_figures_lem : (day : ProcessDay) (d : List ℕ) (room : ℕ) (t : Totals) → close_of day d room ≡ Ok t → FiguresOf (records_of (closed_file d)) t
closed_figures_lem day d room t e = figures_of_records day (closed_file d) t (closed_accepted day d room t e)

-- an accepted file, stripped of its ends, closes with the same figures, and to itself
pub stripped_closes : (day : ProcessDay) (b : List ℕ) (t : Totals) → check_of day b ≡ Ok t → (room : ℕ) → length b ≤ room
    → (close_of day (stripped b) room ≡ Ok t) × (closed_file (stripped b) ≡ b)
stripped_closes day b t e room fits =
    let a = accepting day b t e in
    (closes_so day (stripped b) room t (closes_again day b t a room fits), closed_again day b t a)

-- so it is the one accepted file with those records in that order
pub closed_only : (day : ProcessDay) (b : List ℕ) (t : Totals) (d : List ℕ) → check_of day b ≡ Ok t → stripped b ≡ d → b ≡ closed_file d
closed_only day b t d e s = sym (closed_again day b t (accepting day b t e)) ∙ ap closed_file s

-- a draft closes exactly when there is such a file, and room for it
pub closes_exactly : (day : ProcessDay) (d : List ℕ) (room : ℕ) → ((t : Totals) × (close_of day d room ≡ Ok t)) ↔ FileFor day d room
closes_exactly day d room = (there, λ v. (v.figures, ap (λ (x : List ℕ). close_of day x room) (sym v.records) ∙ (stripped_closes day v.file v.figures v.accepted room v.fits).0))
  where
    there : (t : Totals) × (close_of day d room ≡ Ok t) → FileFor day d room
    there v =
        record {
          file = closed_file d;
          figures = v.0;
          accepted = closed_accepted day d room v.0 v.1;
          records = closed_keeps day d room v.0 v.1;
          fits = (closed_fits day d room v.0 v.1).1;
        }

-- and exactly when it breaks no rule, and there is room for its records and their ends
pub draft_closes_exactly : (day : ProcessDay) (d : List ℕ) (room : ℕ)
    → ((t : Totals) × (close_of day d room ≡ Ok t)) ↔ (LawfulDraft day d × (record_bytes * to_write (records_of d) ≤ room))
draft_closes_exactly day d room = (sound_and_room day d room, room_and_sound day d room)

-- then with these figures exactly when they are those of the written records
pub closed_with : (day : ProcessDay) (d : List ℕ) (room : ℕ) (t : Totals)
    → (close_of day d room ≡ Ok t) ↔ (LawfulDraft day d × (record_bytes * to_write (records_of d) ≤ room) × FiguresOf (records_of (closed_file d)) t)
closed_with day d room t = (there, back)
  where
    there : close_of day d room ≡ Ok t → LawfulDraft day d × (record_bytes * to_write (records_of d) ≤ room) × FiguresOf (records_of (closed_file d)) t
    there e = let v = sound_and_room day d room (t, e) in (v.0, v.1, closed_figures_lem day d room t e)

    back : LawfulDraft day d × (record_bytes * to_write (records_of d) ≤ room) × FiguresOf (records_of (closed_file d)) t → close_of day d room ≡ Ok t
    back v = let u = room_and_sound day d room (v.0, v.1) in u.1 ∙ ap Ok (one_figures _ u.0 t (closed_figures_lem day d room u.0 u.1) v.2)

-- the room that is always enough: that of twice the draft and the 89, or that of a file of full size
few_openings : (rs : List (List ℕ)) → openings rs ≤ length rs
unfolding openings
few_openings [] = omega arith
few_openings (r ∷ rs) = go (opens r) (few_openings rs)
  where
    go : (x : Bool) → openings rs ≤ length rs → (if x then 1 else 0) + openings rs ≤ length (r ∷ rs)
    go true h = omega (arith, h)
    go false h = omega (arith, h)

pub close_room_enough : (day : ProcessDay) (d : List ℕ) (room : ℕ) → (2 * length d + record_bytes ≤ room) ⊎ (record_bytes * most_records ≤ room) → LawfulDraft day d
    → (t : Totals) × (close_of day d room ≡ Ok t)
close_room_enough day d room h l = (draft_closes_exactly day d room).1 (l, fits h)
  where
    fits : (2 * length d + record_bytes ≤ room) ⊎ (record_bytes * most_records ≤ room) → record_bytes * to_write (records_of d) ≤ room
    fits (inl p) = omega (arith, p, few_openings (records_of d), record_count d)
    fits (inr p) = omega (arith, p, l.few)

-- a refusal names the first reason in the stated order
pub close_order : (day : ProcessDay) (d : List ℕ) (room : ℕ) (x : Refusal) → (close_of day d room ≡ Err x) ↔ CloseRefusing day d room (Err x)
close_order day d room x = (refusing day d room x, refuses_so day d room (Err x))

-- ---- the lent output
-- what is written lies over its start, and the bytes behind it stay
pub closed_bytes_lem : (day : ProcessDay) (d out : List ℕ) (t : Totals) → close_of day d (length out) ≡ Ok t
    → closed_bytes day d out ≡ closed_file d ++ drop (length (closed_file d)) out
unfolding closed_bytes lent_after
closed_bytes_lem day d out t e = ap (λ (v : Verdict). lent_after v (closed_file d) out) e

-- a refusal changes nothing
pub closed_refused : (day : ProcessDay) (d out : List ℕ) (x : Refusal) → close_of day d (length out) ≡ Err x → closed_bytes day d out ≡ out
unfolding closed_bytes lent_after
closed_refused day d out x e = ap (λ (v : Verdict). lent_after v (closed_file d) out) e

-- a stripped file is closed to the same bytes again
pub stripped_bytes : (day : ProcessDay) (b : List ℕ) (t : Totals) (out : List ℕ) → check_of day b ≡ Ok t → length b ≤ length out
    → closed_bytes day (stripped b) out ≡ b ++ drop (length b) out
stripped_bytes day b t out e fits =
    let v = stripped_closes day b t e (length out) fits in
    closed_bytes_lem day (stripped b) out t v.0 ∙ ap (λ (x : List ℕ). x ++ drop (length x) out) v.1
