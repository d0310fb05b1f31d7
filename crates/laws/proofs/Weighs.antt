-- What closing answers, case by case: accepted exactly for a draft that meets the rules and has room, and every refusal has its reason.
-- Assumes nothing.
use Prim.Native.Nat.{ℕ, ◌+◌, ◌*◌, ◌≤◌}
use mathlib.Core.Path.{◌≡◌, refl, sym, ap, subst, ◌∙◌}
use mathlib.Core.List.{List, []}
use mathlib.Core.Bool.{Bool, true, false}
use native.Mathlib.Nat.{zero-add}
use native.Mathlib.Omega.{arith}
use borrow.Author.Tests.{leb-true, leb-false, le-leb, lt-leb}
use lib.Dec.{leb}
use lib.ListN.{length}
use Rattle.std.specs.Prelude.{if◌then◌else◌, Option, Some, None, Ok, Err}
use Rattle.dates.specs.Windows.{window_of}
use Rattle.dates.specs.declared.ProcessDay.{ProcessDay}
use Rattle.dates.specs.declared.Window.{Window}
use Rattle.figures.specs.Totals.{none}
use Rattle.figures.specs.declared.totals.Totals.{Totals}
use Rattle.figures.proofs.Laws.{none-⊕}
use Rattle.limits.specs.Limits.{record_bytes, most_records}
use Rattle.rules.specs.Growth.{start}
use Rattle.rules.specs.Refusals.{refused}
use Rattle.rules.specs.Run.{run, records_of, bad_length, on_window}
use Rattle.rules.specs.declared.Mode.TheVariants.{Draft}
use Rattle.rules.specs.declared.Refusal.{Refusal}
use Rattle.operations.specs.Closing.{to_write, closed_figures, given, on_accepted, weigh, close_of}
use Rattle.laws.specs.Meets.{gains}
use Rattle.laws.specs.Closable.{LawfulDraft, CloseRefusing, wrong_day, wrong_length, too_many, at_record, at_end, last_group, short_output}
use Rattle.laws.proofs.Sound.{met, runs}
use Rattle.laws.proofs.First.{Stops, stopped, cut_off, ungiven, stops, stops_so}
use Rattle.laws.proofs.EndsPut.{gains_records, gains_openings}
use Rattle.rules.specs.Refusals.{Verdict}
use Rattle.layout.specs.declared.Reason.TheVariants.{BrokenLength, TooManyRecords, EndsEarly, NotAddedUp, NoRoom}

accepted_not_refused : (t : Totals) (x : Refusal) → Ok t ≡ Err x → ⊥
accepted_not_refused t x e = let z : ◌≡◌ {A = ℕ} 0 1 = cc in omega arith

same_totals : (t u : Totals) → ◌≡◌ {A = Verdict} (Ok t) (Ok u) → t ≡ u
same_totals t u e = cc

-- a draft that is closed, its figures, and room for what is written
pub record Closing (day : ProcessDay) (d : List ℕ) (room : ℕ) (t : Totals) : Type 0 where
  pub draft : LawfulDraft day d
  pub figures : t ≡ closed_figures (gains (records_of d))
  pub fits : 81 * t.records.0 ≤ room

-- as many records as refusal 3 counts
figures_count : (rs : List (List ℕ)) → (closed_figures (gains rs)).records.0 ≡ to_write rs
figures_count rs = omega (arith, gains_records rs, gains_openings rs)

-- ---- the draft alone
-- what weighing gives
data Weight (day : ProcessDay) (d : List ℕ) (room : ℕ) : Verdict → Type 0 where
  sound : (l : LawfulDraft day d) → Weight day d room (Ok (closed_figures (gains (records_of d))))
  unsound : (x : Refusal) → CloseRefusing day d room (Err x) → Weight day d room (Err x)

module _ (day : ProcessDay) (w : Window) (d : List ℕ) (room : ℕ) (o : window_of day ≡ Some w) where
  -- behind its length and its number of records
  abbrev ran : Verdict → Verdict
  ran v = on_accepted v (λ t. Ok (closed_figures t))

  ran_weight : bad_length d ≡ false → to_write (records_of d) ≤ most_records → (v : Verdict) → run Draft w 0 start [] (records_of d) ≡ v → Weight day d room (ran v)
  ran_weight p q (Ok t) e =
      let r = met Draft w 0 start [] (records_of d) t e in
      subst (λ (u : Totals). Weight day d room (Ok (closed_figures u))) (sym (r.total ∙ none-⊕ (gains (records_of d))))
      (sound record { window = w; opened = o; lengthy = p; few = q; meets = r.meets; ends = r.ends })
  ran_weight p q (Err x) e = unsound x (told (Err x) (stops Draft w 0 start [] (records_of d) x e))
    where
      told : (v : Verdict) → Stops Draft w none [] start.assignment (records_of d) 0 v → CloseRefusing day d room v
      told v (stopped j n k f) = subst (λ (i : ℕ). CloseRefusing day d room (refused n 0 (i + 1) k)) (sym (zero-add j)) (at_record w j n k o p q f)
      told v (cut_off m s) = subst (λ (i : ℕ). CloseRefusing day d room (refused EndsEarly 0 (i + 1) 0)) (sym (zero-add (length (records_of d)))) (at_end w o p q m s)
      told v (ungiven m s g) = subst (λ (i : ℕ). CloseRefusing day d room (refused NotAddedUp 0 (i + 1) 0)) (sym (zero-add (length (records_of d)))) (last_group w o p q m s g)

  weight : Weight day d room (weigh w d)
  unfolding weigh
  weight = go (bad_length d) (leb (to_write (records_of d)) most_records) refl refl
    where
      go : (x y : Bool) → bad_length d ≡ x → leb (to_write (records_of d)) most_records ≡ y
          → Weight day d room (if x then refused BrokenLength 0 0 0 else (if y then ran (run Draft w 0 start [] (records_of d)) else refused TooManyRecords 0 0 0))
      go true y p q = unsound _ (wrong_length w o p)
      go false false p q = unsound _ (too_many w o p (leb-false _ _ q))
      go false true p q = ran_weight p (leb-true _ _ q) (run Draft w 0 start [] (records_of d)) refl

  -- and the other way
  weighs : (v : Verdict) → bad_length d ≡ false → to_write (records_of d) ≤ most_records → run Draft w 0 start [] (records_of d) ≡ v → weigh w d ≡ ran v
  unfolding weigh
  weighs v p q e = rw (p, le-leb (to_write (records_of d)) most_records q) (ap ran e)

-- ---- with the day before it, and the output behind it
-- what closing gives
data Answer (day : ProcessDay) (d : List ℕ) (room : ℕ) : Verdict → Type 0 where
  closes : (t : Totals) → Closing day d room t → Answer day d room (Ok t)
  refuses : (x : Refusal) → CloseRefusing day d room (Err x) → Answer day d room (Err x)

module _ (day : ProcessDay) (d : List ℕ) (room : ℕ) where
  abbrev opening : Option Window → Verdict
  opening o = on_window o (λ w. on_accepted (weigh w d) (given room))

  answer : Answer day d room (close_of day d room)
  unfolding close_of
  answer = go (window_of day) refl
    where
      roomed : LawfulDraft day d → (t : Totals) → t ≡ closed_figures (gains (records_of d)) → (b : Bool) → leb (81 * t.records.0) room ≡ b → Answer day d room (if b then Ok t else refused NoRoom 0 0 0)
      roomed l t e true p = closes t record { draft = l; figures = e; fits = leb-true _ _ p }
      roomed l t e false p =
          let h = leb-false (81 * t.records.0) room p in
          refuses _ (short_output l (omega (arith, h, ap (λ (u : Totals). u.records.0) e, figures_count (records_of d))))

      behind : (v : Verdict) → Weight day d room v → Answer day d room (on_accepted v (given room))
      behind v (sound l) = roomed l _ refl _ refl
      behind v (unsound x r) = refuses x r

      go : (o : Option Window) → window_of day ≡ o → Answer day d room (opening o)
      go None p = refuses _ (wrong_day p)
      go (Some w) p = behind (weigh w d) (weight day w d room p)

  opened : (o : Option Window) → window_of day ≡ o → close_of day d room ≡ opening o
  unfolding close_of
  opened o e = ap opening e

  -- a run that is accepted, and one that stops
  runs_so : (w : Window) (v : Verdict) → window_of day ≡ Some w → bad_length d ≡ false → to_write (records_of d) ≤ most_records → run Draft w 0 start [] (records_of d) ≡ v
      → close_of day d room ≡ on_accepted (on_accepted v (λ t. Ok (closed_figures t))) (given room)
  runs_so w v o p q e = opened (Some w) o ∙ ap (λ (u : Verdict). on_accepted u (given room)) (weighs day w d room o v p q e)

  stopped_so : (w : Window) (x : Refusal) → window_of day ≡ Some w → bad_length d ≡ false → to_write (records_of d) ≤ most_records
      → Stops Draft w none [] start.assignment (records_of d) 0 (Err x) → close_of day d room ≡ Err x
  stopped_so w x o p q s = runs_so w (Err x) o p q (stops_so Draft w 0 start [] (records_of d) (Err x) s)

  lawful_so : LawfulDraft day d → close_of day d room ≡ given room (closed_figures (gains (records_of d)))
  lawful_so l =
      runs_so l.window _ l.opened l.lengthy l.few (runs Draft l.window 0 start [] (records_of d) l.meets l.ends ∙ ap Ok (none-⊕ (gains (records_of d))))

  -- each answer by its reason
  pub closes_so : (t : Totals) → Closing day d room t → close_of day d room ≡ Ok t
  closes_so t c =
      lawful_so c.draft ∙ ap (given room) (sym c.figures) ∙ ap (λ (b : Bool). if b then Ok t else refused NoRoom 0 0 0) (le-leb (81 * t.records.0) room c.fits)

  pub refuses_so : (v : Verdict) → CloseRefusing day d room v → close_of day d room ≡ v
  unfolding weigh
  refuses_so v (wrong_day o) = opened None o
  refuses_so v (wrong_length w o p) = opened (Some w) o ∙ rw p
  refuses_so v (too_many w o p q) = opened (Some w) o ∙ rw (p, lt-leb (to_write (records_of d)) most_records q)
  refuses_so v (at_record w i n k o p q f) = stopped_so w _ o p q (stopped i n k f) ∙ ap (λ (j : ℕ). refused n 0 (j + 1) k) (zero-add i)
  refuses_so v (at_end w o p q m s) = stopped_so w _ o p q (cut_off m s) ∙ ap (λ (j : ℕ). refused EndsEarly 0 (j + 1) 0) (zero-add (length (records_of d)))
  refuses_so v (last_group w o p q m s g) = stopped_so w _ o p q (ungiven m s g) ∙ ap (λ (j : ℕ). refused NotAddedUp 0 (j + 1) 0) (zero-add (length (records_of d)))
  refuses_so v (short_output l h) =
      let t = closed_figures (gains (records_of d)) in
      lawful_so l ∙ ap (λ (b : Bool). if b then Ok t else refused NoRoom 0 0 0) (lt-leb (81 * t.records.0) room (omega (arith, h, figures_count (records_of d))))

  -- and its reason by each answer
  pub closing : (t : Totals) → close_of day d room ≡ Ok t → Closing day d room t
  closing t e = go (close_of day d room) answer e
    where
      go : (v : Verdict) → Answer day d room v → v ≡ Ok t → Closing day d room t
      go v (closes u c) e = subst (Closing day d room) (same_totals u t e) c
      go v (refuses x r) e = absurd (accepted_not_refused t x (sym e))

  pub refusing : (x : Refusal) → close_of day d room ≡ Err x → CloseRefusing day d room (Err x)
  refusing x e = go (close_of day d room) answer e
    where
      go : (v : Verdict) → Answer day d room v → v ≡ Err x → CloseRefusing day d room (Err x)
      go v (closes t c) e = absurd (accepted_not_refused t x e)
      go v (refuses y r) e = subst (CloseRefusing day d room) e r

  -- closed with some figures, or sound and with room: the same
  pub sound_and_room : ((t : Totals) × (close_of day d room ≡ Ok t)) → LawfulDraft day d × (record_bytes * to_write (records_of d) ≤ room)
  sound_and_room v =
      let c = closing v.0 v.1 in
      (c.draft, omega (arith, c.fits, ap (λ (u : Totals). u.records.0) c.figures, figures_count (records_of d)))

  pub room_and_sound : LawfulDraft day d × (record_bytes * to_write (records_of d) ≤ room) → (t : Totals) × (close_of day d room ≡ Ok t)
  room_and_sound v =
      let t = closed_figures (gains (records_of d)) in
      (t, closes_so t record { draft = v.0; figures = refl; fits = omega (arith, v.1, figures_count (records_of d)) })
