-- Document 01, "What may follow", and "Closing, joining, parting" for drafts; document 02, No. 2, for what follows 40, 41 and 49.
-- Assumes nothing.
use Rattle.std.specs.Prelude.{ℕ, List, [], ◌∷◌, Bool, eqb, if◌then◌else◌}
use Rattle.layout.specs.Rows.{member}
use Rattle.services.specs.declared.Service.{Service}
use Rattle.services.specs.declared.Service.TheVariants.{Autogiro, Remittance}
use Rattle.rules.specs.Codes.{number_of_kind}
use Rattle.rules.specs.declared.Kind.{Kind}
use Rattle.rules.specs.declared.Kind.TheVariants.{R10, R20, R30, R31, R40, R41, R49, R50, R88, R89, Other}
use Rattle.rules.specs.declared.Mode.{Mode}
use Rattle.rules.specs.declared.Mode.TheVariants.{File, Draft}
use Rattle.rules.specs.declared.Assignment.{Assignment}

-- after a whole transaction: the next one, or the assignment's end; in a draft, where 88 might come, a 20 may
abbrev pub next : Mode → List ℕ
next File = 30 ∷ 88 ∷ []
next Draft = 30 ∷ 20 ∷ []

-- after a 31, by service and transaction type
abbrev pub behind31 : Mode → Service → ℕ → List ℕ
behind31 m Remittance t =
    if eqb t 16 then (50 ∷ []) else (if eqb t 4 then (40 ∷ []) else (if eqb t 3 then (40 ∷ next m) else next m))
behind31 m Autogiro t = if eqb t 3 then (49 ∷ next m) else next m

-- by the record before
abbrev pub behind : Mode → Kind → Service → ℕ → List ℕ
behind m Other s t = 10 ∷ []
behind m R10 s t = 20 ∷ []
behind m R20 s t = 30 ∷ []
behind m R30 s t = 31 ∷ []
behind m R31 s t = behind31 m s t
behind m R50 s t = 50 ∷ next m
behind m R40 s t = 41 ∷ 49 ∷ next m
behind m R41 s t = 49 ∷ next m
behind m R49 s t = 49 ∷ next m
behind m R88 s t = 20 ∷ 89 ∷ []
behind m R89 s t = []

unfoldable pub may_follow : Mode → Assignment → Kind → Bool
may_follow m a k = member (number_of_kind k) (behind m a.last a.service a.code)

-- a file ends after its 89; a draft where 88 might come
abbrev pub is_end : Kind → Bool
is_end k = eqb (number_of_kind k) 89

unfoldable pub may_end : Mode → Assignment → Bool
may_end File a = is_end a.last
may_end Draft a = may_follow File a R88
