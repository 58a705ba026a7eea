use Rattle.std.specs.Prelude.{◌≡◌, ◌<◌, ◌≤◌, List, ℕ, Some, length, refl, slice_get}
use Rattle.std.proofs.Common.{arith, rules, ap, subst}
use Rattle.std.proofs.lemmas.Bool.{false≢true}
use Rattle.bn_reply_machines.proofs.AlphabetLemmas.{letter_found, none_at_all, none_below_more}
use Rattle.bn_reply_machines.proofs.tape_names.TapeNames.find.Goals as goal

pub returns-then-is_byte-clause-found : goal.returns-then-is_byte-clause-found
returns-then-is_byte-clause-found c =
    let s = c.loop-symbol.symbol in
    let there : slice_get c.args.self.now s ≡ Some c.symbol.result.now =
    subst (λ (names : List (List ℕ)). slice_get names s ≡ Some c.symbol.result.now) c.self.view_is
    c.symbol.ensures.name
    in
    letter_found c.args.self.now s c.args.byte c.symbol.result.now there (c.if-is_byte.ensures.0 refl)

pub loop-symbol-preserved : goal.loop-symbol-preserved
loop-symbol-preserved c =
    let s = c.loop-symbol.symbol in
    let there : slice_get c.args.self.now s ≡ Some c.symbol.result.now =
    subst (λ (names : List (List ℕ)). slice_get names s ≡ Some c.symbol.result.now) c.self.view_is
    c.symbol.ensures.name
    in
    let low : c.args.byte < 256 = search rules in
    none_below_more c.args.self.now c.args.byte s c.symbol.result.now low c.loop-symbol.invariant there
    (λ e. false≢true (c.if-is_byte.ensures.1 e))

pub returns-clause-none : goal.returns-clause-none
returns-clause-none c =
    let s = c.loop-symbol.symbol in
    let all : length c.args.self.now ≤ s =
    omega (
      arith,
      c.loop-symbol-test.false,
      c.loop-symbol.auto.symbol-end,
      c.self.invariant.2,
      ap (λ (names : List (List ℕ)). length names) c.self.view_is,
    )
    in
    none_at_all c.args.self.now c.args.byte s all c.loop-symbol.invariant
