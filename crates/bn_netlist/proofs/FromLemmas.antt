-- Reading a text from a source.
use Rattle.std.specs.Prelude.{◌≡◌, ◌≢◌, ℕ, List, Option, Some, Result, Ok, Err, IfOk, IfErr, IsErrOf}
use Rattle.std.proofs.Common.{append-nil, subst, sym, ◌∙◌, []}
use Rattle.std.proofs.lemmas.Result.{IfErr-at_err}
use Rattle.bn_io.specs.Told.{Loses, ReadsWithin}
use Rattle.bn_netlist.specs.FromText.{IsFromRefusal, HasWhole}
use Rattle.bn_netlist.specs.declared.refusal.FromRefusal.{FromRefusal}
use Rattle.bn_netlist.specs.declared.refusal.FromRefusal.TheVariants.{ReadFault, TooLong, Text, NoMemory}

-- a read that went well, and what came of it
pub reads_as : (a b : Option (List ℕ)) (limit : ℕ) (part whole : Type 0) (piece : List ℕ)
    → ReadsWithin a b limit part piece → (part → whole) → (whole → part) → ReadsWithin a b limit whole piece
reads_as a b limit part whole piece reads up down =
    record {
      lost = reads.lost;
      bound = reads.bound;
      refused = λ more. up (reads.refused more);
      longer = λ is. reads.longer (down is);
    }

pub not_so : {T : Type 0} (r : Result T FromRefusal) (e : FromRefusal) → IfErr r (λ d. d ≢ e) → IsErrOf r e → ⊥
not_so r e other is = IfErr-at_err (λ d. d ≢ e) is other refl_
  where
    refl_ : e ≡ e
    refl_ = λ i. e

pub no_text : (piece : List ℕ) (r : FromRefusal) → (HasWhole r → ⊥) → IsFromRefusal piece r
no_text piece ReadFault none = tt
no_text piece TooLong none = tt
no_text piece (Text r) none = absurd (none tt)
no_text piece NoMemory none = tt

pub if_any_ok : {T E : Type 0} (r : Result T E) (P : Type 0) → P → IfOk r (λ _. P)
if_any_ok (Ok x) P p = p
if_any_ok (Err e) P p = tt

pub if_any_err : {T E : Type 0} (r : Result T E) (Q : E → Type 0) (P : Type 0) → P → IfErr r (λ e. Q e → P)
if_any_err (Ok x) Q P p = tt
if_any_err (Err e) Q P p = λ _. p

pub if_ok_at : {T E X : Type 0} (r : Result T E) (P : T → X → Type 0) (Q : X → Type 0) (x : X) → Q x
    → IfOk r (λ c. (y : X) → Q y → P c y) → IfOk r (λ c. P c x)
if_ok_at (Ok c) P Q x q h = h x q
if_ok_at (Err e) P Q x q h = tt

pub if_err_at : {T E X : Type 0} (r : Result T E) (P : E → X → Type 0) (Q : X → Type 0) (x : X) → Q x
    → IfErr r (λ e. (y : X) → Q y → P e y) → IfErr r (λ e. P e x)
if_err_at (Ok c) P Q x q h = tt
if_err_at (Err e) P Q x q h = h x q

-- all bytes of an input that has none left
pub all_given : (bytes piece : List ℕ) (after : Option (List ℕ)) → Loses (Some bytes) after piece → after ≡ Some []
    → piece ≡ bytes
all_given bytes piece after lost ended =
    let none : Loses (Some bytes) (Some []) piece = subst (λ a. Loses (Some bytes) a piece) ended lost in
    sym (none ∙ append-nil piece)
