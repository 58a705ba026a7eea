use Rattle.std.specs.Prelude.{◌++◌, List, ℕ, length, refl}
use Rattle.std.proofs.Common.{ap, append_assoc, ◌∙◌}
use Rattle.std.proofs.lemmas.Result.{on_ok_weaker}
use Rattle.bn_reply_traces.specs.ConfigurationText.{name_in}
use Rattle.bn_reply_traces.specs.Stages.{shown_text}
use Rattle.bn_reply_traces.proofs.MomentLemmas.{counted}
use Rattle.bn_reply_traces.proofs.TapeStageLemmas.{tape_below, tape_within}
use Rattle.bn_reply_traces.proofs.quad_text.push_numbered.Goals as goal

pub push_tape-requires-clause-few : goal.push_tape-requires-clause-few
push_tape-requires-clause-few c = c.requires.3.few

pub push_tape-requires-clause-within : goal.push_tape-requires-clause-within
push_tape-requires-clause-within c =
    tape_within (length c.args.names.now) c.args.word.now c.requires.0 c.requires.1 c.args.tape.now c.args.extent
    c.requires.2
    c.requires.3

pub push_tape-requires-clause-below : goal.push_tape-requires-clause-below
push_tape-requires-clause-below c =
    tape_below (length c.args.names.now) c.args.word.now c.requires.0 c.requires.1 c.args.tape.now c.args.extent
    c.requires.2
    c.requires.3

pub returns : goal.returns
returns c = λ n i t at.
    let e = c.args.extent in
    let many = counted e.first e.last (at.first.least e.last at.last.stands) in
    let shown = shown_text (name_in c.args.names.now) t e.first many.0 in
    on_ok_weaker c.push_tape.result (λ last. (
      shown,
      record {
        first = e.first;
        last = e.last;
        count = many.0;
        begins = at.first;
        ends = at.last;
        counted = many.1;
        is = refl;
      },
      last ∙ ap (λ (z : List ℕ). z ++ shown) c.in_ok-push.ensures.added
          ∙ append_assoc c.args.text.now.items c.args.number.now shown,
    )) (c.push_tape.ensures t many.0 at.tape many.1)
