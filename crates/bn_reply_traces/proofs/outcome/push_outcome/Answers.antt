use Rattle.std.specs.Prelude.{◌≢◌, codes, decimal, false, slice_index_or, [], ◌∷◌}
use Rattle.std.specs.Option.{is_some}
use Rattle.std.proofs.Common.{rules, ◌≡◌, ◌++◌, sym}
use Rattle.std.proofs.lemmas.Option.{get_or_from_slice_get}
use Rattle.bn_machine.specs.Machine.{final_of}
use Rattle.bn_machine.specs.Tape.{scanned}
use Rattle.bn_reply.specs.Words.{letters_of}
use Rattle.bn_reply_traces.proofs.TextLemmas.{five_pieces, stuck_outcome}
use Rattle.bn_reply_traces.proofs.outcome.push_outcome.Goals as goal

pub returns : goal.returns
returns c = λ e out.
    let t = c.args.table.now in
    let s = c.args.stage.now in
    let none : is_some c.args.rule ≡ false = search rules in
    let going : s.state ≢ final_of t.machine.quints = search rules in
    let name : c.state_name.result.now ≡ slice_index_or t.names s.state [] =
    sym (get_or_from_slice_get t.names s.state c.state_name.result.now [] c.state_name.ensures) in
    let whole = five_pieces c.args.text.now.items (codes "stuck ") (slice_index_or t.names s.state []) (codes " ")
    (letters_of t (scanned s.tape.tape ∷ [])) (codes " " ++ (decimal c.args.made ++ 10 ∷ []))
    c.push.new.text.items c.push-2.new.text.items c.push-3.new.text.items c.push_letters.new.text.items
    c.push_counted-2.new.text.items c.in_ok-push.ensures.added (rw (sym name) c.in_ok-push-2.ensures.added)
    c.in_ok-push-3.ensures.added
    (rw (sym c.scanned.ensures) c.in_ok-push_letters.ensures.added) (search rules)
    in
    stuck_outcome t c.args.made s.state (scanned s.tape.tape) c.args.rule e c.push_counted-2.new.text.items
    c.args.text.now.items none going whole out
