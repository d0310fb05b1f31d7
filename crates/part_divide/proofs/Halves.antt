-- The two parts of a file, on bytes: what each has, how long it is, and what dividing answers.
-- Assumes nothing.
use Prim.Native.Nat.{ℕ, zero, suc, ◌+◌, ◌-◌, ◌*◌, ◌/◌, ◌≤◌, ◌<◌}
use mathlib.Core.Path.{◌≡◌, refl, sym, ap, ap₂, subst, ◌∙◌}
use mathlib.Core.List.{List, [], ◌∷◌, ◌++◌, append-nil}
use mathlib.Core.Bool.{Bool, ◌&&◌, and-false}
use native.Mathlib.Omega.{arith}
use borrow.Author.Tests.{le-leb, lt-leb}
use lib.Dec.{leb}
use lib.ListN.{length, take, drop, length-append, length-drop}
use lib.Seq.{length-take-le, take_all, drop-drop}
use Rattle.std.specs.Prelude.{if◌then◌else◌, Ok, Err}
use Rattle.dates.specs.Dates.{date}
use Rattle.figures.specs.Totals.{none, ◌⊕◌, one_record, Room}
use Rattle.figures.specs.declared.totals.Totals.{Totals}
use Rattle.figures.proofs.Laws.{⊕-assoc, none-⊕}
use Rattle.run_growth.specs.Bounds.{Bounded}
use Rattle.laws.proofs.Bytes.{record_count, laid}
use Rattle.laws.proofs.EndsPut.{gains_records}
use Rattle.laws.proofs.Made.{bytes_join}
use Rattle.operations.specs.Ends.{end89}
use Rattle.operations.specs.Closing.{bytes_of}
use Rattle.operations.specs.Parting.{through, figures_of, made, not_parted, lent_parted}
use Rattle.rules.specs.Growth.{gains}
use Rattle.rules.specs.Refusals.{refusal}
use Rattle.rules.specs.Run.{chunks, records_of}
use Rattle.rules.specs.declared.Refusal.{Refusal}
use Rattle.run_figures.specs.Slots.{summed}
use Rattle.write_file.proofs.Ends.{end_length}
use Rattle.part_divide.specs.Halves.{Divisible, first_half, second_half, divided}
use Rattle.operations.specs.Parting.{Parting}
use Rattle.operations.specs.declared.NotParted.TheVariants.{Refused}
use Rattle.layout.specs.declared.Reason.TheVariants.{NoRoom}

-- ---- figures with both ends
module _ (t : Totals) (b : Bounded 200000 t) where
  pub room_ten : (x : Totals) → x ≡ none → Room x one_record
  room_ten x e = subst (λ (y : Totals). Room y one_record) (sym e) (record { assignments = omega arith; transactions = omega arith; records = omega arith; sum = omega arith })

  pub one_ten : (x y : Totals) → x ≡ none → y ≡ x ⊕ one_record → y ≡ one_record
  one_ten x y e q = q ∙ ap (λ (z : Totals). z ⊕ one_record) e ∙ none-⊕ one_record

  pub room_body : (y : Totals) → y ≡ one_record → Room y t
  room_body y e =
      subst (λ (z : Totals). Room z t) (sym e)
      (record { assignments = omega (arith, b.assignments); transactions = omega (arith, b.transactions); records = omega (arith, b.records); sum = omega (arith, b.sum) })

  pub room_end : (y : Totals) → y ≡ one_record ⊕ t → Room y one_record
  room_end y e =
      subst (λ (z : Totals). Room z one_record) (sym e)
      (record { assignments = omega (arith, b.assignments); transactions = omega (arith, b.transactions); records = omega (arith, b.records); sum = omega (arith, b.sum) })

-- ---- records and bytes before and behind a boundary
first_cuts : (j n : ℕ) (b : List ℕ) → j ≤ n → take j (chunks n b) ≡ chunks j b
unfolding chunks
first_cuts zero n b h = refl
first_cuts (suc j) zero b h = absurd (omega arith)
first_cuts (suc j) (suc n) b h = ap (λ (x : List (List ℕ)). take 81 b ∷ x) (first_cuts j n (drop 81 b) (omega arith))

last_cuts : (p n : ℕ) (b : List ℕ) → p ≤ n → drop p (chunks n b) ≡ chunks (n - p) (drop (81 * p) b)
unfolding chunks
last_cuts zero n b h = let e : n ≡ n - 0 = omega arith in ap (λ (x : ℕ). chunks x b) e
last_cuts (suc p) zero b h = absurd (omega arith)
last_cuts (suc p) (suc n) b h =
    let e : 81 + 81 * p ≡ 81 * suc p = omega arith in
    let m : n - p ≡ suc n - suc p = omega arith in
    last_cuts p n (drop 81 b) (omega arith)
    ∙ ap₂ chunks m (drop-drop (81 * p) 81 b ∙ ap (λ (x : ℕ). drop x b) e)

made_bytes : (head : List ℕ) (body : List (List ℕ)) → bytes_of (made head body) ≡ head ++ (bytes_of body ++ end89 (figures_of body))
unfolding bytes_of made
made_bytes head body = ap (λ (x : List ℕ). head ++ x) (bytes_join body (end89 (figures_of body) ∷ []) ∙ ap (λ (x : List ℕ). bytes_of body ++ x) (append-nil (end89 (figures_of body))))

-- the boundary, from the figures of what stands before it
module _ (head body figures : List ℕ) (k all : ℕ) (d : Divisible head body figures k all) (t : Totals) (e : t ≡ summed figures 1 (k + 1 - 1)) where
  boundary : t.records.0 ≡ through k (records_of body)
  boundary =
      let n = through k (records_of body) in
      ap (λ (x : Totals). x.records.0) (e ∙ d.sums.first) ∙ gains_records (take n (records_of body)) ∙ length-take-le n (records_of body) d.sums.within

  pub cut_here : (t.records.0 ≡ through k (records_of body)) × (t.records.0 ≤ length body / 81) × (t ≡ gains (take t.records.0 (records_of body)))
  cut_here = (boundary, omega (arith, boundary, d.sums.within, record_count body), e ∙ d.sums.first ∙ ap (λ (n : ℕ). gains (take n (records_of body))) (sym boundary))

-- the assignments before the boundary, and those behind it
module _ (head body figures : List ℕ) (k all : ℕ) (d : Divisible head body figures k all) (p : ℕ) (e : p ≡ through k (records_of body)) (m : p ≤ length body / 81) (before behind : List ℕ) (cut : before ≡ take (81 * p) body) (others : behind ≡ drop (81 * p) body) where
  front : bytes_of (take p (records_of body)) ≡ before
  front = ap bytes_of (first_cuts p (length body / 81) body m) ∙ laid p body (omega (arith, d.whole)) ∙ sym cut

  back : bytes_of (drop p (records_of body)) ≡ behind
  back =
      let l : length (drop (81 * p) body) ≤ 81 * (length body / 81 - p) = rw length-drop (omega (arith, d.whole)) in
      ap bytes_of (last_cuts p (length body / 81) body m) ∙ laid (length body / 81 - p) (drop (81 * p) body) (rw length-drop (omega (arith, d.whole))) ∙ take_all (81 * (length body / 81 - p)) (drop (81 * p) body) l ∙ sym others

  -- each part, from the figures of its assignments
  pub first_is : (t f : Totals) → t ≡ gains (take p (records_of body)) → f ≡ (one_record ⊕ t) ⊕ one_record → head ++ (before ++ end89 f) ≡ first_half head body k
  unfolding first_half
  first_is t f g h =
      ap₂ (λ (x : List ℕ) (y : Totals). head ++ (x ++ end89 y)) (sym front) (h ∙ ap (λ (x : Totals). (one_record ⊕ x) ⊕ one_record) g) ∙ sym (made_bytes head (take p (records_of body)))
      ∙ ap (λ (x : ℕ). bytes_of (made head (take x (records_of body)))) e

  pub second_is : (t f : Totals) → t ≡ gains (drop p (records_of body)) → f ≡ (one_record ⊕ t) ⊕ one_record → head ++ (behind ++ end89 f) ≡ second_half head body k
  unfolding second_half
  second_is t f g h =
      ap₂ (λ (x : List ℕ) (y : Totals). head ++ (x ++ end89 y)) (sym back) (h ∙ ap (λ (x : Totals). (one_record ⊕ x) ⊕ one_record) g) ∙ sym (made_bytes head (drop p (records_of body)))
      ∙ ap (λ (x : ℕ). bytes_of (made head (drop x (records_of body)))) e

  -- and how long it is
  file_long : (x : List ℕ) (f : Totals) → length (head ++ (x ++ end89 f)) ≡ length x + 162
  file_long x f = length-append head (x ++ end89 f) ∙ omega (arith, d.ten, length-append x (end89 f), end_length 0 89 f (date 0))

  first_long : length (first_half head body k) ≡ length before + 162
  first_long = sym (ap length (first_is _ _ refl refl)) ∙ file_long before _

  second_long : length (second_half head body k) ≡ length behind + 162
  second_long = sym (ap length (second_is _ _ refl refl)) ∙ file_long behind _

  -- ---- what dividing answers
  module _ (first second : List ℕ) where
    abbrev pub Divides : Parting → List ℕ → List ℕ → Type 0
    Divides x one two =
        (x ≡ divided head body k (length first) (length second)) × (one ≡ lent_parted x (first_half head body k) first) × (two ≡ lent_parted x (second_half head body k) second)

    -- the answer, from which of the two outputs have room
    answered : Bool → Bool → Parting
    answered y z = if y && z then Ok (length (first_half head body k), length (second_half head body k)) else not_parted NoRoom

    leaves : (x : Refusal) → x ≡ refusal NoRoom 0 0 0 → divided head body k (length first) (length second) ≡ not_parted NoRoom → Divides (Err (Refused x)) first second
    unfolding lent_parted
    leaves x e q = (ap (λ (y : Refusal). Err (Refused y)) e ∙ sym q, refl, refl)

    pub first_short : (x : Refusal) → x ≡ refusal NoRoom 0 0 0 → length first < length before + 162 → Divides (Err (Refused x)) first second
    unfolding divided answered
    first_short x q h =
        leaves x q (ap (λ (y : Bool). answered y (leb (length (second_half head body k)) (length second))) (lt-leb (length (first_half head body k)) (length first) (omega (arith, first_long))))

    pub second_short : (x : Refusal) → x ≡ refusal NoRoom 0 0 0 → length second < length behind + 162 → Divides (Err (Refused x)) first second
    unfolding divided answered
    second_short x q h =
        leaves x q
        (ap (answered (leb (length (first_half head body k)) (length first))) (lt-leb (length (second_half head body k)) (length second) (omega (arith, second_long)))
        ∙ ap (λ (y : Bool). if y then Ok (length (first_half head body k), length (second_half head body k)) else not_parted NoRoom) (and-false (leb (length (first_half head body k)) (length first))))

    module _ (h : length before + 162 ≤ length first) (g : length behind + 162 ≤ length second) where
      both : divided head body k (length first) (length second) ≡ Ok (length before + 162, length behind + 162)
      unfolding divided answered
      both =
          ap₂ answered (le-leb (length (first_half head body k)) (length first) (omega (arith, first_long))) (le-leb (length (second_half head body k)) (length second) (omega (arith, second_long)))
          ∙ ap₂ (λ (x y : ℕ). Ok (x, y)) first_long second_long

      over : (w v old after : List ℕ) (n : ℕ) → w ≡ v → length v ≡ n → after ≡ w ++ drop n old → after ≡ lent_parted (Ok (length before + 162, length behind + 162)) v old
      unfolding lent_parted
      over w v old after n i l q = q ∙ ap₂ (λ (x : List ℕ) (y : ℕ). x ++ drop y old) i (sym l)

      pub parts : (t u f o : Totals) (one two : List ℕ) → t ≡ gains (take p (records_of body)) → f ≡ (one_record ⊕ t) ⊕ one_record
          → u ≡ summed figures (k + 1) (all + 1 - (k + 1)) → o ≡ one_record ⊕ u
          → one ≡ (head ++ (before ++ end89 f)) ++ drop (length head + length before + 81) first
          → two ≡ (head ++ (behind ++ end89 o)) ++ drop (length head + length behind + 81) second → Divides (Ok (length before + 162, length behind + 162)) one two
      parts t u f o one two a b c j x y =
          let g = gains (drop p (records_of body)) in
          let q : o ≡ (one_record ⊕ g) ⊕ one_record =
          j ∙ ap (λ (z : Totals). one_record ⊕ z) (c ∙ d.sums.others ∙ ap (λ (n : ℕ). gains (drop n (records_of body)) ⊕ one_record) (sym e)) ∙ sym (⊕-assoc one_record g one_record) in (
            sym both,
            over _ (first_half head body k) first one (length head + length before + 81) (first_is t f a b) (omega (arith, first_long, d.ten)) x,
            over _ (second_half head body k) second two (length head + length behind + 81) (second_is g o refl q) (omega (arith, second_long, d.ten)) y,
          )
