-- What the looking at a lead tells, without the tree.
use Rattle.std.specs.Prelude.{ℕ, List, Result, Ok, Err}
use Rattle.lead.specs.declared.Target.{Target}
use Rattle.routine_header.specs.declared.Header.{Header}
use Rattle.lead.specs.declared.Refusal.{Refusal}
use Rattle.lead.specs.Lead.{ClaimAdmission, refused, translates, claim_admission}

-- an admission without the tree
abbrev pub claim_without_tree : ClaimAdmission → Result Header Refusal
claim_without_tree (refused refusal) = Err refusal
claim_without_tree (translates h a k) = Ok h

-- what `admit` answers
unfoldable pub claim_admitted : (bs : List ℕ) → Target → (ds : List ℕ) → Result Header Refusal
claim_admitted bs t ds = claim_without_tree (claim_admission bs t ds)
