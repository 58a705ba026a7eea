-- One more letter, where the first table hasn't it.
use Rattle.std.proofs.Common.{◌≡◌, ℕ, Bool, Some, not, ap, ◌∙◌, get_or, slice_get}
use Rattle.std.specs.Option.{is_some}
use Rattle.std.proofs.lemmas.Option.{slice_get-get_or}
use Rattle.bn_erase.proofs.JointLemmas.{is_among}
use Rattle.bn_erase.proofs.LetterLemmas.{filtered_in, filtered_out, known_is}
use Rattle.bn_erase.proofs.joined.add_further_letters.Goals as goal
use Rattle.bn_erase.proofs.joined.add_further_letters.Goals.{then-is_none+in_ok-push, else-is_none}

pub loop-letter-preserved : goal.loop-letter-preserved
loop-letter-preserved c =
    let more = c.args.more.now in
    let start = c.args.letters.now.items in
    let before = c.loop-letter.letters.items in
    let i = c.loop-letter.letter-index in
    let l = get_or more i 0 in
    let at : slice_get more i ≡ Some l = slice_get-get_or more i 0 c.loop-letter-test.true in
    let test : ℕ → Bool = λ letter. not (is_among c.args.first.now.letters letter) in
    let known : is_among c.args.first.now.letters l ≡ is_some c.symbol_of.result =
    known_is c.args.first.now.letters l c.symbol_of.result c.symbol_of.ensures.found c.symbol_of.ensures.none in
    let tested : is_among c.args.first.now.letters l ≡ not c.is_none.result = known ∙ c.is_none.ensures in
    elim c.if-is_none.branch [
      | then-is_none+in_ok-push w ↦
          filtered_in test more i l at start before c.if-is_none.letters.items
          (ap not (tested ∙ ap not w.if-is_none.true)) c.loop-letter.invariant
          (ap (λ v. v.items) w.letters-is ∙ w.in_ok-push.ensures.items)
      | else-is_none w ↦
          ap (λ v. v.items) w.letters-is ∙ filtered_out test more i l at start before
          (ap not (tested ∙ ap not w.if-is_none.false)) c.loop-letter.invariant
    ]
