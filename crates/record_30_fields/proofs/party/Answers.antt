-- Field 7: a right account, a reference, or digits of any sort; else the account's answer decides.
-- Assumes nothing.
use Prim.Native.Nat.{ℕ}
use mathlib.Core.Path.{◌≡◌, ap, ap₂, sym, ◌∙◌}
use mathlib.Core.Bool.{Bool, not, ◌&&◌}
use lib.Dec.{eqb}
use Rattle.fields.specs.Bytes.{part}
use Rattle.fields.specs.Accounts.{Account, account_of, is_number}
use Rattle.layout.specs.Findings.{account_found}
use Rattle.rules.specs.Codes.{type_code}
use Rattle.record_30_fields.proofs.Accounts.{right_sound, reference_sound, type_sound, account_decides}
use Rattle.record_30_fields.proofs.party.Goals.{After-is_number}
use Rattle.record_30_fields.proofs.party.Goals as goal

-- the third test, as the code makes it and as the rows have it
excused : (p : After-is_number)
    → (not (eqb p.args.service 1) && eqb p.code_at.result 4 && p.is_number.result)
    ≡ (not (eqb p.args.service 1) && eqb (type_code p.args.r.now) 4 && is_number (account_of (part 22 32 p.args.r.now)))
excused p =
    ap₂ (λ (t : ℕ) (b : Bool). not (eqb p.args.service 1) && eqb t 4 && b) p.code_at.ensures
    (p.is_number.ensures ∙ ap is_number p.account_at-account.ensures)

pub returns-then-right_account_at : goal.returns-then-right_account_at
returns-then-right_account_at c = λ f ks.
    sym (right_sound f ks c.args.r.now c.args.service c.requires (sym c.right_account_at.ensures ∙ c.if-right_account_at.true))

pub returns-then-referred : goal.returns-then-referred
returns-then-referred c = λ f ks.
    sym (reference_sound f ks c.args.r.now c.args.service c.requires (sym c.referred.ensures ∙ c.if-referred.true))

pub returns-then-service-code_at : goal.returns-then-service-code_at
returns-then-service-code_at c = λ f ks.
    sym (type_sound f ks c.args.r.now c.args.service c.requires (sym (excused (goal.at.returns-then-service-code_at c).After-is_number) ∙ c.if-service-code_at.true))

pub returns : goal.returns
returns c = λ f ks.
    c.account_found.ensures ∙ ap (λ (x : Account). account_found x 7) c.account_at-account.ensures
    ∙ sym (account_decides f ks c.args.r.now c.args.service c.requires (sym c.referred.ensures ∙ c.if-referred.false) (sym (excused (goal.at.returns c).After-is_number) ∙ c.if-service-code_at.false))
