-- What each operation answers is how much of an output a caller keeps: these bytes, all of them, are the file, and in a program in C they are told by number.
-- Assumes nothing.
use Rattle.std.proofs.Common.{Ok, Err}
use Prim.Native.Nat.{ℕ, ◌≤◌}
use mathlib.Core.Path.{◌≡◌, refl, sym, ap, subst, ◌∙◌}
use mathlib.Core.List.{List, ◌++◌}
use native.Mathlib.Omega.{arith}
use lib.ListN.{length, take, drop, length-append, length-drop}
use lib.Seq.{take_at}
use Rattle.dates.specs.declared.ProcessDay.{ProcessDay}
use Rattle.figures.specs.declared.totals.Totals.{Totals}
use Rattle.rules.specs.declared.Refusal.{Refusal}
use Rattle.operations.specs.Answers.{refused_numbers, accepted_numbers, written_numbers, parted_numbers}
use Rattle.operations.specs.Closing.{file_bytes, close_of, closed_file}
use Rattle.operations.specs.Joining.{join_of, joined_file, answered_figures}
use Rattle.operations.specs.Parting.{no_boundary, part_of, first_part, second_part}
use Rattle.operations.specs.Promises.{ClosePromise, JoinPromise, PartPromise, CloseNumbers, JoinNumbers, PartNumbers}
use Rattle.laws.specs.Saved.{Saved, place}
use Rattle.laws.proofs.Closing.{closed_fits, closed_bytes_lem}
use Rattle.laws.proofs.Joining.{joined_fits, joined_bytes_lem}
use Rattle.laws.proofs.Parting.{part_lengths, parted_bytes}
use Rattle.operations.specs.Parting.{Parting}
use Rattle.rules.specs.Refusals.{Verdict}
use Rattle.operations.specs.declared.NotParted.TheVariants.{NoBoundary, Refused}

-- an output that was written over its start
over_start : (file before after : List ℕ) (n : ℕ) → after ≡ file ++ drop (length file) before → length file ≤ length before → n ≡ length file → Saved n file after
over_start file before after n e l m =
    let s : length after ≡ length before = ap length e ∙ simp (length-append, length-drop) (omega arith) in
    record { long = m; fits = omega (arith, m, s); saved = ap (take n) e ∙ take_at file (drop (length file) before) n (sym m) }

-- ---- THE THEOREMS
pub closed_saved : (day : ProcessDay) (d before after : List ℕ) (v : Verdict) (t : Totals) → ClosePromise day d before v after → v ≡ Ok t → Saved (file_bytes t) (closed_file d) after
closed_saved day d before after v t p q =
    let e = sym p.answers ∙ q in
    let f = closed_fits day d (length before) t e in
    over_start (closed_file d) before after (file_bytes t) (p.leaves ∙ closed_bytes_lem day d before t e) f.1 (sym f.0)

pub joined_saved : (day : ProcessDay) (a b before after : List ℕ) (v : Verdict) (t : Totals) → JoinPromise day a b before v after → v ≡ Ok t → Saved (file_bytes t) (joined_file a b t) after
joined_saved day a b before after v t p q =
    let e = sym p.answers ∙ q in
    let f = joined_fits day a b (length before) t e in
    over_start (joined_file a b t) before after (file_bytes t) (p.leaves ∙ joined_bytes_lem day a b before t e) f.1 (sym f.0)

pub parted_saved : (day : ProcessDay) (b : List ℕ) (k : ℕ) (before1 before2 after1 after2 : List ℕ) (x : Parting) (n m : ℕ) → PartPromise day b k before1 before2 x after1 after2 → x ≡ Ok (n, m)
    → Saved n (first_part k b) after1 × Saved m (second_part k b) after2
parted_saved day b k before1 before2 after1 after2 x n m p q =
    let e = sym p.answers ∙ q in
    let l = part_lengths day b k (length before1) (length before2) n m e in
    let w = parted_bytes day b k before1 before2 n m e in
    (over_start (first_part k b) before1 after1 n (p.leaves_first ∙ w.0) l.2 l.0, over_start (second_part k b) before2 after2 m (p.leaves_second ∙ w.1) l.3 l.1)

-- ---- the same by the numbers that a program in C is told
refused_what : (x : Refusal) → place (refused_numbers x) 0 ≡ 0
unfolding refused_numbers
refused_what x = refl

told_accepted : (v : Verdict) → place (written_numbers v) 0 ≡ 1 → (v ≡ Ok (answered_figures v)) × (place (written_numbers v) 10 ≡ file_bytes (answered_figures v))
unfolding written_numbers accepted_numbers
told_accepted (Ok t) h = (refl, refl)
told_accepted (Err x) h = absurd (let z = refused_what x in omega (arith, z, h))

data ToldParted (x : Parting) : Type 0 where
  told : (n m : ℕ) → x ≡ Ok (n, m) → place (parted_numbers x) 10 ≡ n → place (parted_numbers x) 15 ≡ m → ToldParted x

parts_told : (x : Parting) → place (parted_numbers x) 0 ≡ 2 → ToldParted x
unfolding parted_numbers
parts_told (Ok e) h = told e.0 e.1 refl refl refl
parts_told (Err (NoBoundary c)) h = absurd (let z = refused_what no_boundary in omega (arith, z, h))
parts_told (Err (Refused x)) h = absurd (let z = refused_what x in omega (arith, z, h))

pub told_closed : (day : ProcessDay) (d before answer after : List ℕ) → CloseNumbers day d before answer after → place answer 0 ≡ 1 → Saved (place answer 10) (closed_file d) after
told_closed day d before answer after p h =
    let v = close_of day d (length before) in
    let e = told_accepted v (ap (λ (l : List ℕ). place l 0) (sym p.answers) ∙ h) in
    let q : ClosePromise day d before v after = record { answers = refl; leaves = p.leaves } in
    subst (λ (n : ℕ). Saved n (closed_file d) after) (sym (ap (λ (l : List ℕ). place l 10) p.answers ∙ e.1)) (closed_saved day d before after v (answered_figures v) q e.0)

pub told_joined : (day : ProcessDay) (a b before answer after : List ℕ) → JoinNumbers day a b before answer after → place answer 0 ≡ 1
    → Saved (place answer 10) (joined_file a b (answered_figures (join_of day a b (length before)))) after
told_joined day a b before answer after p h =
    let v = join_of day a b (length before) in
    let e = told_accepted v (ap (λ (l : List ℕ). place l 0) (sym p.answers) ∙ h) in
    let q : JoinPromise day a b before v after = record { answers = refl; leaves = p.leaves } in
    subst (λ (n : ℕ). Saved n (joined_file a b (answered_figures v)) after) (sym (ap (λ (l : List ℕ). place l 10) p.answers ∙ e.1)) (joined_saved day a b before after v (answered_figures v) q e.0)

pub told_parted : (day : ProcessDay) (b : List ℕ) (k : ℕ) (before1 before2 answer after1 after2 : List ℕ) → PartNumbers day b k before1 before2 answer after1 after2 → place answer 0 ≡ 2
    → Saved (place answer 10) (first_part k b) after1 × Saved (place answer 15) (second_part k b) after2
told_parted day b k before1 before2 answer after1 after2 p h = go (parts_told x (ap (λ (l : List ℕ). place l 0) (sym p.answers) ∙ h))
  where
    x : Parting
    x = part_of day b k (length before1) (length before2)

    q : PartPromise day b k before1 before2 x after1 after2
    q = record { answers = refl; leaves_first = p.leaves_first; leaves_second = p.leaves_second }

    go : ToldParted x → Saved (place answer 10) (first_part k b) after1 × Saved (place answer 15) (second_part k b) after2
    go (told n m e i j) =
        let s = parted_saved day b k before1 before2 after1 after2 x n m q e in (
          subst (λ (z : ℕ). Saved z (first_part k b) after1) (sym (ap (λ (l : List ℕ). place l 10) p.answers ∙ i)) s.0,
          subst (λ (z : ℕ). Saved z (second_part k b) after2) (sym (ap (λ (l : List ℕ). place l 15) p.answers ∙ j)) s.1,
        )
