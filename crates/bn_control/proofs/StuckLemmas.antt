-- What a control answers to 'where is the machine stuck', where it awaits a first read.
use Rattle.std.proofs.Common.{◌≡◌, ℕ, Option, Some, None, slice_get, subst, ap, sym, ◌∙◌, unwrap_or}
use Rattle.std.specs.Prelude.{◌↔◌}
use Rattle.std.proofs.lemmas.Option.{some_pair_parts}
use Rattle.bn_rsm.specs.Machines.{machine_table}
use Rattle.bn_control.specs.Controlled.{Controlled, IsStuckAt, IsAnswer}

-- this is the answer
abbrev pub TellsStuck : Controlled → ℕ → ℕ → Option (ℕ × ℕ) → Type 0
TellsStuck v n j o = (a c : ℕ) → (o ≡ Some (a, c)) ↔ IsStuckAt v n j a c

module _ (v : Controlled) (n j from tape : ℕ) (is : slice_get v.awaited n ≡ Some (Some (from, tape))) where
  -- who awaits a read is one
  awaits : (a t : ℕ) → slice_get v.awaited n ≡ Some (Some (a, t)) → (from ≡ a) × (tape ≡ t)
  awaits a t e = some_pair_parts from a tape t (ap (λ (o : Option (Option (ℕ × ℕ))). unwrap_or o None) (sym is ∙ e))

  -- no symbol of the awaited tape is answered
  pub none_answered : ((c : ℕ) → None ≡ Some c ↔ IsAnswer v.symbols tape j c) → TellsStuck v n j None
  none_answered none a c = (
    λ e. absurd (cc),
    λ s. absurd (let tapes = (awaits a s.tape s.awaits).1 in let there = (none c).1
        (subst (λ t. IsAnswer v.symbols t j c) (sym tapes) s.answers) in cc),
  )

  -- there is no move
  pub no_move : (symbol : ℕ) → ((c : ℕ) → Some symbol ≡ Some c ↔ IsAnswer v.symbols tape j c)
      → (machine_table v.machine).go n j ≡ None → TellsStuck v n j (Some (from, symbol))
  no_move symbol some none a c = (
    λ e. let parts = some_pair_parts from a symbol c e in record {
      tape = tape;
      awaits = is ∙ ap (λ x. Some (Some (x, tape))) parts.0;
      answers = (some c).0 (ap (λ x. Some x) parts.1);
      none = none;
    },
    λ s. let who = awaits a s.tape s.awaits in let same : symbol ≡ c =
        (let e = (some c).1 (subst (λ t. IsAnswer v.symbols t j c) (sym who.1) s.answers) in cc) in λ i. Some
        (who.0 i, same i),
  )
