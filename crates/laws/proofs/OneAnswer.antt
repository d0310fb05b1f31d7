-- No second answer fits: of each operation, two answers that meet its promise are one, and so are the bytes that they leave in lent memory.
-- Assumes nothing.
use Prim.Native.Nat.{ℕ}
use mathlib.Core.Path.{◌≡◌, sym, ◌∙◌}
use mathlib.Core.List.{List}
use Rattle.dates.specs.declared.ProcessDay.{ProcessDay}
use Rattle.rules.specs.declared.Kind.{Kind}
use Rattle.operations.specs.Making.{Put}
use Rattle.operations.specs.Promises.{CheckPromise, ClosePromise, JoinPromise, PartPromise, MakePromise, CheckNumbers, CloseNumbers, JoinNumbers, PartNumbers, MakeNumbers}
use Rattle.operations.specs.Making.{Making}
use Rattle.operations.specs.Parting.{Parting}
use Rattle.rules.specs.Refusals.{Verdict}

module _ (day : ProcessDay) (file : List ℕ) (x y : Verdict) where
  pub one_answer_check : CheckPromise day file x → CheckPromise day file y → x ≡ y
  one_answer_check p q = p.answers ∙ sym q.answers

module _ (day : ProcessDay) (draft out : List ℕ) (x y : Verdict) (xs ys : List ℕ) where
  pub one_answer_close : ClosePromise day draft out x xs → ClosePromise day draft out y ys → (x ≡ y) × (xs ≡ ys)
  one_answer_close p q = (p.answers ∙ sym q.answers, p.leaves ∙ sym q.leaves)

module _ (day : ProcessDay) (first second out : List ℕ) (x y : Verdict) (xs ys : List ℕ) where
  pub one_answer_join : JoinPromise day first second out x xs → JoinPromise day first second out y ys → (x ≡ y) × (xs ≡ ys)
  one_answer_join p q = (p.answers ∙ sym q.answers, p.leaves ∙ sym q.leaves)

module _ (day : ProcessDay) (file : List ℕ) (k : ℕ) (out1 out2 : List ℕ) (x y : Parting) (xs1 xs2 ys1 ys2 : List ℕ) where
  pub one_answer_part : PartPromise day file k out1 out2 x xs1 xs2 → PartPromise day file k out1 out2 y ys1 ys2 → (x ≡ y) × (xs1 ≡ ys1) × (xs2 ≡ ys2)
  one_answer_part p q = (p.answers ∙ sym q.answers, p.leaves_first ∙ sym q.leaves_first, p.leaves_second ∙ sym q.leaves_second)

module _ (kind : Kind) (ps : List Put) (out : List ℕ) (x y : Making) (xs ys : List ℕ) where
  pub one_answer_make : MakePromise kind ps out x xs → MakePromise kind ps out y ys → (x ≡ y) × (xs ≡ ys)
  one_answer_make p q = (p.answers ∙ sym q.answers, p.leaves ∙ sym q.leaves)

-- ---- and of each function for a program in C or Rust, two rows of numbers
module _ (day : ProcessDay) (file x y : List ℕ) where
  pub one_answer_pay_check : CheckNumbers day file x → CheckNumbers day file y → x ≡ y
  one_answer_pay_check p q = p.answers ∙ sym q.answers

module _ (day : ProcessDay) (draft out x y xs ys : List ℕ) where
  pub one_answer_pay_close : CloseNumbers day draft out x xs → CloseNumbers day draft out y ys → (x ≡ y) × (xs ≡ ys)
  one_answer_pay_close p q = (p.answers ∙ sym q.answers, p.leaves ∙ sym q.leaves)

module _ (day : ProcessDay) (first second out x y xs ys : List ℕ) where
  pub one_answer_pay_join : JoinNumbers day first second out x xs → JoinNumbers day first second out y ys → (x ≡ y) × (xs ≡ ys)
  one_answer_pay_join p q = (p.answers ∙ sym q.answers, p.leaves ∙ sym q.leaves)

module _ (day : ProcessDay) (file : List ℕ) (k : ℕ) (out1 out2 x y xs1 xs2 ys1 ys2 : List ℕ) where
  pub one_answer_pay_part : PartNumbers day file k out1 out2 x xs1 xs2 → PartNumbers day file k out1 out2 y ys1 ys2 → (x ≡ y) × (xs1 ≡ ys1) × (xs2 ≡ ys2)
  one_answer_pay_part p q = (p.answers ∙ sym q.answers, p.leaves_first ∙ sym q.leaves_first, p.leaves_second ∙ sym q.leaves_second)

module _ (kind : Kind) (ps : List Put) (out x y xs ys : List ℕ) where
  pub one_answer_pay_make : MakeNumbers kind ps out x xs → MakeNumbers kind ps out y ys → (x ≡ y) × (xs ≡ ys)
  one_answer_pay_make p q = (p.answers ∙ sym q.answers, p.leaves ∙ sym q.leaves)
