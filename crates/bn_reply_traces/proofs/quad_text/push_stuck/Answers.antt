use Rattle.std.specs.Prelude.{◌≡◌, ◌∷◌, ◌++◌, List, ℕ, [], codes, decimal, length}
use Rattle.std.proofs.Common.{ap, sym, ◌∙◌}
use Rattle.std.proofs.lemmas.Option.{get_or_from_slice_get}
use Rattle.std.proofs.lemmas.Result.{on_ok_weaker}
use Rattle.bn_machine.specs.Tape.{scanned}
use Rattle.bn_reply_traces.specs.ConfigurationText.{name_in}
use Rattle.bn_reply_traces.specs.QuadStages.{table_in}
use Rattle.bn_reply_traces.proofs.QuadTextLemmas.{nine_pieces}
use Rattle.bn_reply_traces.proofs.TapeStageLemmas.{scans_alike}
use Rattle.bn_reply_traces.proofs.quad_text.push_stuck.Goals as goal

pub returns : goal.returns
returns c = λ x at.
    let r = c.args.run.now in
    let t = table_in r in
    let s = c.args.stage.now in
    let n = r.most_steps in
    let i = c.args.steps in
    let name : c.state.result.now ≡ name_in t.names.states x.state =
    sym (get_or_from_slice_get t.names.states s.state c.state.result.now [] c.state.ensures.name)
    ∙ ap (name_in t.names.states) (sym at.state)
    in
    let scan1 : c.scanned.result ≡ scanned x.one =
    c.scanned.ensures ∙ sym (scans_alike (length t.names.one) r.words.one.now n i s.tapes.one s.extents.one x.one
    at.one)
    in
    let scan2 : c.scanned-2.result ≡ scanned x.two =
    c.scanned-2.ensures ∙ sym (scans_alike (length t.names.two) r.words.two.now n i s.tapes.two s.extents.two x.two
    at.two)
    in
    let scan3 : c.scanned-3.result ≡ scanned x.three =
    c.scanned-3.ensures
    ∙ sym (scans_alike (length t.names.three) r.words.three.now n i s.tapes.three s.extents.three x.three at.three)
    in
    let one : name_in c.symbols.result c.scanned.result ≡ name_in t.names.one (scanned x.one) =
    (λ k. name_in (c.symbols.ensures k) (scan1 k))
    in
    let two : name_in c.symbols-2.result c.scanned-2.result ≡ name_in t.names.two (scanned x.two) =
    (λ k. name_in (c.symbols-2.ensures k) (scan2 k))
    in
    let three : name_in c.symbols-3.result c.scanned-3.result ≡ name_in t.names.three (scanned x.three) =
    (λ k. name_in (c.symbols-3.ensures k) (scan3 k))
    in
    on_ok_weaker c.push_counted.result (λ last.
    nine_pieces c.args.text.now.items (codes "stuck ") (name_in t.names.states x.state) (codes " ")
    (name_in t.names.one (scanned x.one)) (codes " ") (name_in t.names.two (scanned x.two)) (codes " ")
    (name_in t.names.three (scanned x.three)) (codes " " ++ (decimal i ++ 10 ∷ []))
    c.push.new.text.items c.push-2.new.text.items c.push-3.new.text.items c.push_symbol.new.text.items
    c.push-4.new.text.items
    c.push_symbol-2.new.text.items c.push-5.new.text.items c.push_symbol-3.new.text.items c.push_counted.new.text.items
    c.in_ok-push.ensures.added (c.in_ok-push-2.ensures.added ∙ ap (λ (z : List ℕ). c.push.new.text.items ++ z) name)
    c.in_ok-push-3.ensures.added (c.in_ok-push_symbol.ensures ∙ ap (λ (z : List ℕ). c.push-3.new.text.items ++ z) one)
    c.in_ok-push-4.ensures.added (c.in_ok-push_symbol-2.ensures ∙ ap (λ (z : List ℕ). c.push-4.new.text.items ++ z) two)
    c.in_ok-push-5.ensures.added
    (c.in_ok-push_symbol-3.ensures ∙ ap (λ (z : List ℕ). c.push-5.new.text.items ++ z) three)
    (last ∙ ap (λ (k : ℕ). c.push_symbol-3.new.text.items ++ (codes " " ++ (decimal k ++ 10 ∷ []))) c.from.ensures))
    c.push_counted.ensures.added
