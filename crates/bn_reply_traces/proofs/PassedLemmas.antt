-- An error that is passed on by a result of another type.
use Rattle.std.specs.Prelude.{◌≡◌, Err, IsErrOf}
use Rattle.std.proofs.Common.{ap, ◌∙◌}

-- it is the same failure in both
pub passed_on : {T U E : Type 0} (passed error failure : E) → passed ≡ error → IsErrOf {T = T} (Err error) failure →
    IsErrOf {T = U} (Err passed) failure
passed_on passed error failure same failed =
    let is : error ≡ failure = cc failed in
    ap (λ e. Err e) (same ∙ is)
