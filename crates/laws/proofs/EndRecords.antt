-- End records: the rows of an 88 or 89 hold of exactly one record of 81 bytes, the one that is written from its figures.
-- Assumes nothing.
use Prim.Native.Nat.{ℕ, zero, suc, ◌+◌, ◌-◌, ◌*◌, ◌/◌, ◌%◌, ◌^◌, ◌≤◌, ◌<◌}
use mathlib.Core.Path.{◌≡◌, refl, sym, ap, ap₂, subst, ◌∙◌}
use mathlib.Core.List.{List, [], ◌∷◌, ◌++◌}
use mathlib.Core.Bool.{Bool, true, false, ◌&&◌, and_assoc}
use native.Mathlib.Nat.{add-zero, zero-div, mod-lt}
use native.Mathlib.Omega.{arith}
use borrow.Author.Tests.{eqb-true, eq-eqb}
use lib.Dec.{eqb, lit<}
use lib.ListN.{length, get_or, take, drop, length-take, length-drop}
use lib.Seq.{drop-drop, take-add}
use Rattle.std.specs.Prelude.{if◌then◌else◌, Some}
use Rattle.fields.specs.Bytes.{every, same, text, part, is_digit, is_zero}
use Rattle.fields.specs.Numbers.{value_from, value, number_of, written, code_of}
use Rattle.fields.proofs.Tests.{and_left, and_right, and_both}
use Rattle.fields.proofs.Every.{same_is, same_self}
use Rattle.fields.proofs.Values.{number_yes, number_is, written_length}
use Rattle.fields.proofs.Width.{digit_field}
use Rattle.dates.specs.Dates.{date, ddmmyy}
use Rattle.dates.specs.declared.Date.{Date}
use Rattle.services.specs.declared.Service.{Service}
use Rattle.services.specs.declared.Service.TheVariants.{Autogiro, Remittance}
use Rattle.dates.proofs.Laws.{earlier_none, later_none}
use Rattle.dates.specs.declared.Window.{Window}
use Rattle.figures.specs.Totals.{◌⊕◌, one_record}
use Rattle.figures.specs.declared.totals.Totals.{Totals}
use Rattle.figures.specs.Groups.{gives}
use Rattle.layout.specs.Rows.{AllHold}
use Rattle.services.specs.Services.{code_for}
use Rattle.rules.specs.Codes.{record_code, kind_for, kind_of}
use Rattle.rules.specs.Order.{may_follow}
use Rattle.rules.specs.Layouts.{rows, table_for}
use Rattle.rules.specs.Growth.{turn_for}
use Rattle.rules.specs.declared.Assignment.{Assignment}
use Rattle.rules.specs.declared.Kind.{Kind}
use Rattle.rules.specs.declared.Kind.TheVariants.{R88, R89}
use Rattle.rules.specs.declared.Mode.TheVariants.{File}
use Rattle.operations.specs.Ends.{end_record, end88, end89}
use Rattle.operations.specs.Closing.{bytes_of}
use Rattle.laws.proofs.Types.{code_is, no_other}
use Rattle.laws.proofs.Bytes.{cuts, widths, total, laid_again, cut_again, laid_length}

-- ---- one field: what it reads as, and what it is
module _ (w n : ℕ) (s : List ℕ) where
  reads : s ≡ written w n → n < 10 ^ w → (every is_digit s ≡ true) × (eqb (value s) n ≡ true)
  reads e h =
      let v = number_is s n (ap number_of e ∙ (digit_field w).reads_back n h) in
      (v.0, eq-eqb (value s) n v.1)

  is_written : length s ≡ w → every is_digit s ≡ true → eqb (value s) n ≡ true → s ≡ written w n
  is_written l d e = sym ((digit_field w).writes_back s n l (number_yes s d ∙ ap Some (eqb-true (value s) n e)))

-- a code of two digits
pub code_reads : (n : ℕ) (s : List ℕ) → s ≡ written 2 n → n < 100 → code_of s ≡ n
unfolding code_of
code_reads n s e h = let v = reads 2 n s e h in rw v.0 (eqb-true (value s) n v.1)

code_written : (n : ℕ) (s : List ℕ) → length s ≡ 2 → n < 100 → code_of s ≡ n → s ≡ written 2 n
unfolding code_of
code_written n s l h e = go (every is_digit s) refl e
  where
    go : (b : Bool) → every is_digit s ≡ b → (if b then value s else 100) ≡ n → s ≡ written 2 n
    go true d e = is_written 2 n s l d (eq-eqb (value s) n e)
    go false d e = absurd (omega arith)

-- zeros
zeros_read : (w : ℕ) → every is_zero (written w 0) ≡ true
unfolding every written
zeros_read zero = refl
zeros_read (suc w) = rw zero-div (zeros_read w)

zeros_written : (s : List ℕ) → every is_zero s ≡ true → s ≡ written (length s) 0
unfolding every written
zeros_written [] h = refl
zeros_written (b ∷ s) h =
    ap₂ ◌∷◌ (eqb-true b 48 (and_left (is_zero b) (every is_zero s) h) ∙ rw zero-div) (zeros_written s (and_right (is_zero b) (every is_zero s) h))

-- a date's number has six digits
six : (a b c : ℕ) → a < 100 → b < 100 → c < 100 → a * 10000 + b * 100 + c < 10 ^ 6
six a b c p q r = omega arith

ddmmyy_below : (d : Date) → ddmmyy d < 10 ^ 6
unfolding ddmmyy
ddmmyy_below d = six (d.0 % 100) (d.0 / 100 % 100) (d.0 / 10000 % 100) (mod-lt d.0 (lit< tt)) (mod-lt (d.0 / 100) (lit< tt)) (mod-lt (d.0 / 10000) (lit< tt))

-- ---- the whole record, in its parts
abbrev end_widths : List ℕ
end_widths = 2 ∷ 2 ∷ 2 ∷ 2 ∷ 8 ∷ 8 ∷ 17 ∷ 6 ∷ 6 ∷ 27 ∷ 1 ∷ []

abbrev in_parts : List ℕ → List (List ℕ)
in_parts r =
    part 1 2 r ∷ part 3 4 r ∷ part 5 6 r ∷ part 7 8 r ∷ part 9 16 r ∷ part 17 24 r ∷ part 25 41 r ∷ part 42 47 r ∷ part 48 53 r ∷ part 54 80 r ∷ part 81 81 r ∷ []

-- what stands in them, of totals that do not count the record yet
abbrev end_fields : ℕ → ℕ → Totals → Date → List (List ℕ)
end_fields service type t last =
    text "NY" ∷ written 2 service ∷ written 2 0 ∷ written 2 type ∷ written 8 t.transactions.0 ∷ written 8 (t.records.0 + 1) ∷ written 17 t.sum.0 ∷
    written 6 (ddmmyy t.first) ∷ written 6 (ddmmyy last) ∷ written 27 0 ∷ (10 ∷ []) ∷ []

-- pieces cut one behind the other are parts by their positions
unfoldable pub cuts_from : ℕ → List ℕ → List ℕ → List (List ℕ)
cuts_from i [] r = []
cuts_from i (n ∷ ns) r = take n (drop i r) ∷ cuts_from (i + n) ns r

pub from_place : (i : ℕ) (ns r : List ℕ) → cuts ns (drop i r) ≡ cuts_from i ns r
unfolding cuts cuts_from
from_place i [] r = refl
from_place i (n ∷ ns) r = rw (drop-drop n i r) (ap (λ (x : List (List ℕ)). take n (drop i r) ∷ x) (from_place (i + n) ns r))

parts_are : (r : List ℕ) → cuts end_widths r ≡ in_parts r
unfolding cuts_from
parts_are r = from_place 0 end_widths r

module _ (service type : ℕ) (t : Totals) (last : Date) where
  laid : end_record service type (t ⊕ one_record) last ≡ bytes_of (end_fields service type t last)
  unfolding end_record bytes_of
  laid = rw (add-zero t.transactions.0, add-zero t.sum.0, earlier_none t.first)

  laid_widths : widths (end_fields service type t last) ≡ end_widths
  unfolding widths
  laid_widths = simp written_length

  end_length : length (end_record service type (t ⊕ one_record) last) ≡ 81
  unfolding total
  end_length = ap length laid ∙ laid_length (end_fields service type t last) ∙ ap total laid_widths

  end_parts : in_parts (end_record service type (t ⊕ one_record) last) ≡ end_fields service type t last
  end_parts =
      sym (parts_are (end_record service type (t ⊕ one_record) last))
      ∙ ap₂ cuts (sym laid_widths) laid
      ∙ cut_again (end_fields service type t last)

  parts_end : (r : List ℕ) → length r ≡ 81 → in_parts r ≡ end_fields service type t last → r ≡ end_record service type (t ⊕ one_record) last
  unfolding total
  parts_end r l e = sym (laid_again end_widths r l) ∙ ap bytes_of (parts_are r ∙ e) ∙ sym laid

-- ---- its rows
-- a figure's two rows: Digits, and the number
abbrev Reads : List ℕ → ℕ → Type 0
Reads s n = (every is_digit s ≡ true) × (eqb (value s) n ≡ true)

-- the four figures that 88 and 89 have in common
record Figures (t : Totals) (r : List ℕ) : Type 0 where
  transactions : Reads (part 9 16 r) t.transactions.0
  records : Reads (part 17 24 r) (t.records.0 + 1)
  sum : Reads (part 25 41 r) t.sum.0
  first : Reads (part 42 47 r) (ddmmyy t.first)

-- what the rows of an end record of this service and type ask of its bytes
record EndRows (service type : ℕ) (t : Totals) (last : Date) (r : List ℕ) : Type 0 where
  sender : same (part 1 2 r) (text "NY") ≡ true
  service_is : code_of (part 3 4 r) ≡ service
  type_is : same (part 5 6 r) (text "00") ≡ true
  record_is : code_of (part 7 8 r) ≡ type
  figures : Figures t r
  last_is : Reads (part 48 53 r) (ddmmyy last)
  rest : every is_zero (part 54 80 r) ≡ true
  feed : same (part 81 81 r) (10 ∷ []) ≡ true

-- figures that fit into their fields
pub record Small (t : Totals) : Type 0 where
  pub transactions : t.transactions.0 < 10 ^ 8
  pub records : t.records.0 + 1 < 10 ^ 8
  pub sum : t.sum.0 < 10 ^ 17

part_length : (from to : ℕ) (r : List ℕ) → to ≤ length r → length (part from to r) ≡ to - (from - 1)
part_length from to r h = simp (length-take, length-drop) (omega arith)

module _ (service type : ℕ) (t : Totals) (last : Date) (p : service < 100) (q : type < 100) where
  -- its code is that of its type, whatever its figures
  end_code : record_code (end_record service type (t ⊕ one_record) last) ≡ type
  end_code = code_reads type (part 7 8 (end_record service type (t ⊕ one_record) last)) (ap (λ (x : List (List ℕ)). get_or x 3 []) (end_parts service type t last)) q

  -- they hold of the record that is written
  end_rows : Small t → EndRows service type t last (end_record service type (t ⊕ one_record) last)
  unfolding written
  end_rows s =
      let r = end_record service type (t ⊕ one_record) last in
      let e = end_parts service type t last in
      record {
        sender = ap (λ (x : List (List ℕ)). same (get_or x 0 []) (text "NY")) e ∙ same_self (text "NY");
        service_is = code_reads service (part 3 4 r) (ap (λ (x : List (List ℕ)). get_or x 1 []) e) p;
        type_is = ap (λ (x : List (List ℕ)). same (get_or x 2 []) (text "00")) e ∙ same_self (text "00");
        record_is = end_code;
        figures = record {
          transactions = reads 8 t.transactions.0 (part 9 16 r) (ap (λ (x : List (List ℕ)). get_or x 4 []) e) s.transactions;
          records = reads 8 (t.records.0 + 1) (part 17 24 r) (ap (λ (x : List (List ℕ)). get_or x 5 []) e) s.records;
          sum = reads 17 t.sum.0 (part 25 41 r) (ap (λ (x : List (List ℕ)). get_or x 6 []) e) s.sum;
          first = reads 6 (ddmmyy t.first) (part 42 47 r) (ap (λ (x : List (List ℕ)). get_or x 7 []) e) (ddmmyy_below t.first);
        };
        last_is = reads 6 (ddmmyy last) (part 48 53 r) (ap (λ (x : List (List ℕ)). get_or x 8 []) e) (ddmmyy_below last);
        rest = ap (λ (x : List (List ℕ)). every is_zero (get_or x 9 [])) e ∙ zeros_read 27;
        feed = ap (λ (x : List (List ℕ)). same (get_or x 10 []) (10 ∷ [])) e ∙ same_self (10 ∷ []);
      }

  -- and of no other
  rows_end : (r : List ℕ) → length r ≡ 81 → EndRows service type t last r → r ≡ end_record service type (t ⊕ one_record) last
  unfolding every
  rows_end r l h =
      let long : 81 ≤ length r = omega arith in
      let e0 = same_is (part 1 2 r) (text "NY") h.sender in
      let e1 = code_written service (part 3 4 r) (part_length 3 4 r (omega arith)) p h.service_is in
      let e2 = same_is (part 5 6 r) (text "00") h.type_is in
      let e3 = code_written type (part 7 8 r) (part_length 7 8 r (omega arith)) q h.record_is in
      let figure : (w n from to : ℕ) → to ≤ 81 → to - (from - 1) ≡ w → Reads (part from to r) n → part from to r ≡ written w n
      = λ w n from to i j x. is_written w n (part from to r) (part_length from to r (omega arith) ∙ j) x.0 x.1 in
      let e4 = figure 8 t.transactions.0 9 16 (omega arith) refl h.figures.transactions in
      let e5 = figure 8 (t.records.0 + 1) 17 24 (omega arith) refl h.figures.records in
      let e6 = figure 17 t.sum.0 25 41 (omega arith) refl h.figures.sum in
      let e7 = figure 6 (ddmmyy t.first) 42 47 (omega arith) refl h.figures.first in
      let e8 = figure 6 (ddmmyy last) 48 53 (omega arith) refl h.last_is in
      let e9 = zeros_written (part 54 80 r) h.rest ∙ ap (λ (n : ℕ). written n 0) (part_length 54 80 r (omega arith)) in
      let e10 = same_is (part 81 81 r) (10 ∷ []) h.feed in
      parts_end service type t last r l
      (λ i. e0 i ∷ e1 i ∷ (e2 ∙ zeros) i ∷ e3 i ∷ e4 i ∷ e5 i ∷ e6 i ∷ e7 i ∷ e8 i ∷ e9 i ∷ e10 i ∷ [])
    where
      zeros : text "00" ≡ written 2 0
      zeros = zeros_written (text "00") refl

-- ---- in the tables of 88 and 89
every_join : (f : ℕ → Bool) (x y : List ℕ) → every f (x ++ y) ≡ every f x && every f y
unfolding every
every_join f [] y = refl
every_join f (b ∷ x) y = ap (λ (c : Bool). f b && c) (every_join f x y) ∙ sym (and_assoc (f b) (every f x) (every f y))

-- zeros at 48-80 are no last date and the zeros behind it
zeros_split : (r : List ℕ) → every is_zero (part 48 80 r) ≡ every is_zero (part 48 53 r) && every is_zero (part 54 80 r)
zeros_split r =
    ap (every is_zero) (take-add 6 27 (drop 47 r) ∙ ap (λ (x : List ℕ). take 6 (drop 47 r) ++ take 27 x) (drop-drop 6 47 r))
    ∙ every_join is_zero (part 48 53 r) (part 54 80 r)

no_date_reads : (s : List ℕ) → length s ≡ 6 → every is_zero s ≡ true → Reads s (ddmmyy (date 0))
unfolding ddmmyy
no_date_reads s l h = reads 6 0 s (zeros_written s h ∙ ap (λ (n : ℕ). written n 0) l) (lit< tt)

reads_no_date : (s : List ℕ) → length s ≡ 6 → Reads s (ddmmyy (date 0)) → every is_zero s ≡ true
unfolding ddmmyy
reads_no_date s l h = ap (every is_zero) (is_written 6 0 s l h.0 h.1) ∙ zeros_read 6

code_zero : (s : List ℕ) → code_of s ≡ 0 → length s ≡ 2 → same s (text "00") ≡ true
unfolding written
code_zero s h l = ap (λ (x : List ℕ). same x (text "00")) (code_written 0 s l (lit< tt) h) ∙ same_self (text "00")

zero_code : (s : List ℕ) → same s (text "00") ≡ true → code_of s ≡ 0
unfolding code_of every value_from
zero_code s h = ap code_of (same_is s (text "00") h)

-- one row's proof, then those of the rows behind it
infixr 20 ◌then◌
abbrev ◌then◌ : {A B : Type 0} → A → B → A × B
a then b = (a, b)

-- the rows of the four figures, and those behind them
abbrev TwoRows : List ℕ → ℕ → Type 0 → Type 0
TwoRows s n X = (every is_digit s ≡ true) × ((eqb (value s) n ≡ true) × X)

abbrev FigureRows : Totals → List ℕ → Type 0 → Type 0
FigureRows t r X =
    TwoRows (part 9 16 r) t.transactions.0 (TwoRows (part 17 24 r) (t.records.0 + 1) (TwoRows (part 25 41 r) t.sum.0 (TwoRows (part 42 47 r) (ddmmyy t.first) X)))

module _ (t : Totals) (r : List ℕ) {X : Type 0} where
  figure_rows : Figures t r → X → FigureRows t r X
  figure_rows h x =
      h.transactions.0 then h.transactions.1 then h.records.0 then h.records.1 then h.sum.0 then h.sum.1 then h.first.0 then h.first.1 then x

  of_figure_rows : FigureRows t r X → Figures t r × X
  of_figure_rows h =
      let two = h.1.1 in
      let three = two.1.1 in
      let four = three.1.1 in
      (record { transactions = (h.0, h.1.0); records = (two.0, two.1.0); sum = (three.0, three.1.0); first = (four.0, four.1.0) }, four.1.1)

module _ (f : Totals) (ks r : List ℕ) (w : Window) (a : Assignment) where
  -- the rows behind the line feed, of a record whose type is known
  abbrev RowsOf : Kind → Type 0
  RowsOf k = (may_follow File a k ≡ true) × AllHold f ks r (table_for k w a r)

  rows_88 : EndRows (code_for a.service) 88 a.totals.totals a.totals.last r → may_follow File a R88 ≡ true → gives a.group a.due ≡ true
      → AllHold f ks r (rows File w a r)
  unfolding AllHold kind_for
  rows_88 h m g =
      let service = eq-eqb (code_of (part 3 4 r)) (code_for a.service) h.service_is in
      let figures = figure_rows a.totals.totals r h.figures (h.last_is.0 then h.last_is.1 then h.rest then tt) in
      let all : RowsOf R88 = m then g then h.sender then service then h.type_is then figures in
      h.feed then subst RowsOf (sym (ap kind_for h.record_is)) all

  of_rows_88 : kind_of r ≡ R88 → AllHold f ks r (rows File w a r)
      → (may_follow File a R88 ≡ true) × (gives a.group a.due ≡ true) × EndRows (code_for a.service) 88 a.totals.totals a.totals.last r
  unfolding AllHold
  of_rows_88 k h =
      let all = subst RowsOf k h.1 in
      let own = all.1.1 in
      let v = of_figure_rows a.totals.totals r own.1.1.1 in (
        all.0,
        all.1.0,
        record {
          sender = own.0;
          service_is = eqb-true (code_of (part 3 4 r)) (code_for a.service) own.1.0;
          type_is = own.1.1.0;
          record_is = code_is r R88 k (no_other R88 refl);
          figures = v.0;
          last_is = (v.1.0, v.1.1.0);
          rest = v.1.1.1.0;
          feed = h.0;
        },
      )

  rows_89 : length r ≡ 81 → EndRows 0 89 f (date 0) r → may_follow File a R89 ≡ true → AllHold f ks r (rows File w a r)
  unfolding AllHold kind_for
  rows_89 l h m =
      let no_date = reads_no_date (part 48 53 r) (part_length 48 53 r (omega arith)) h.last_is in
      let zeros = zeros_split r ∙ and_both (every is_zero (part 48 53 r)) (every is_zero (part 54 80 r)) no_date h.rest in
      let service = code_zero (part 3 4 r) h.service_is (part_length 3 4 r (omega arith)) in
      let all : RowsOf R89 = m then h.sender then service then h.type_is then figure_rows f r h.figures (zeros then tt) in
      h.feed then subst RowsOf (sym (ap kind_for h.record_is)) all

  of_rows_89 : length r ≡ 81 → kind_of r ≡ R89 → AllHold f ks r (rows File w a r) → EndRows 0 89 f (date 0) r
  unfolding AllHold
  of_rows_89 l k h =
      let own = (subst RowsOf k h.1).1 in
      let v = of_figure_rows f r own.1.1.1 in
      let zeros = sym (zeros_split r) ∙ v.1.0 in
      record {
        sender = own.0;
        service_is = zero_code (part 3 4 r) own.1.0;
        type_is = own.1.1.0;
        record_is = code_is r R89 k (no_other R89 refl);
        figures = v.0;
        last_is = no_date_reads (part 48 53 r) (part_length 48 53 r (omega arith)) (and_left (every is_zero (part 48 53 r)) (every is_zero (part 54 80 r)) zeros);
        rest = and_right (every is_zero (part 48 53 r)) (every is_zero (part 54 80 r)) zeros;
        feed = h.0;
      }

-- ---- the 88 of an assignment, and the 89 of a file
service_below : (s : Service) → code_for s < 100
service_below Autogiro = lit< tt
service_below Remittance = lit< tt

module _ (a : Assignment) where
  -- the 88 behind what an assignment has
  abbrev pub its88 : List ℕ
  its88 = end88 (turn_for R88 [] a)

  its_88 : its88 ≡ end_record (code_for a.service) 88 (a.totals.totals ⊕ one_record) a.totals.last
  its_88 = ap (end_record (code_for a.service) 88 (a.totals.totals ⊕ one_record)) (later_none a.totals.last)

  pub sized_88 : length its88 ≡ 81
  sized_88 = ap length its_88 ∙ end_length (code_for a.service) 88 a.totals.totals a.totals.last

  pub kind_88 : kind_of its88 ≡ R88
  unfolding kind_for
  kind_88 = ap kind_of its_88 ∙ ap kind_for (end_code (code_for a.service) 88 a.totals.totals a.totals.last (service_below a.service) (lit< tt))

  pub holds_88 : (f : Totals) (ks : List ℕ) (w : Window) → Small a.totals.totals → may_follow File a R88 ≡ true → gives a.group a.due ≡ true
      → AllHold f ks its88 (rows File w a its88)
  holds_88 f ks w s m g =
      subst (λ (r : List ℕ). AllHold f ks r (rows File w a r)) (sym its_88)
      (rows_88 f ks _ w a (end_rows (code_for a.service) 88 a.totals.totals a.totals.last (service_below a.service) (lit< tt) s) m g)

  -- an 88 that may stand here and whose rows hold
  pub record Ended (r : List ℕ) : Type 0 where
    pub may : may_follow File a R88 ≡ true
    pub gave : gives a.group a.due ≡ true
    pub is : r ≡ its88

  pub is_88 : (f : Totals) (ks : List ℕ) (w : Window) (r : List ℕ) → length r ≡ 81 → kind_of r ≡ R88 → AllHold f ks r (rows File w a r) → Ended r
  is_88 f ks w r l k h =
      let v = of_rows_88 f ks r w a k h in
      record {
        may = v.0;
        gave = v.1;
        is = rows_end (code_for a.service) 88 a.totals.totals a.totals.last (service_below a.service) (lit< tt) r l v.2 ∙ sym its_88;
      }

module _ (f : Totals) where
  -- the 89 behind what a file has
  abbrev pub its89 : List ℕ
  its89 = end89 (f ⊕ one_record)

  pub sized_89 : length its89 ≡ 81
  sized_89 = end_length 0 89 f (date 0)

  pub kind_89 : kind_of its89 ≡ R89
  unfolding kind_for
  kind_89 = ap kind_for (end_code 0 89 f (date 0) (lit< tt) (lit< tt))

  pub holds_89 : (ks : List ℕ) (w : Window) (a : Assignment) → Small f → may_follow File a R89 ≡ true → AllHold f ks its89 (rows File w a its89)
  holds_89 ks w a s m = rows_89 f ks its89 w a sized_89 (end_rows 0 89 f (date 0) (lit< tt) (lit< tt) s) m

  pub is_89 : (ks : List ℕ) (w : Window) (a : Assignment) (r : List ℕ) → length r ≡ 81 → kind_of r ≡ R89 → AllHold f ks r (rows File w a r) → r ≡ its89
  is_89 ks w a r l k h = rows_end 0 89 f (date 0) (lit< tt) (lit< tt) r l (of_rows_89 f ks r w a l k h)
