use Rattle.std.proofs.Common.{[], ◌∷◌, ◌++◌, ◌≡◌, ◌∙◌, sym, append-nil, arith}
use Rattle.bn_netlist.proofs.NetLemmas.{on_ok}
use Rattle.bn_netlist_laws.specs.Sentences.{Title, Count, Start, End, Steps, At, lines_text}
use Rattle.bn_netlist.proofs.WritingLemmas.{line_more}
use Rattle.bn_netlist.proofs.write.push_header.Goals as goal

pub returns : goal.returns
returns g c =
    let old = c.args.text.now.items in
    let s = g.C.Spellable.spelling c.args.config.now in
    let v = c.version.result in
    let counted : c.from.result ≡ s.elements = omega (arith, c.len.ensures) in
    let title = line_more old old c.push_title.new.text.items [] (Title v) (sym (append-nil old))
    c.in_ok-push_title.ensures in
    let count = line_more old c.push_title.new.text.items c.push_counted.new.text.items (Title v ∷ [])
    (Count c.from.result) title c.in_ok-push_counted.ensures in
    let first = line_more old c.push_counted.new.text.items c.push_named.new.text.items
    (Title v ∷ Count c.from.result ∷ []) (Start c.start.result) count c.in_ok-push_named.ensures in
    let second = line_more old c.push_named.new.text.items c.push_named-2.new.text.items
    (Title v ∷ Count c.from.result ∷ Start c.start.result ∷ []) (End c.end.result) first
    c.in_ok-push_named-2.ensures in
    let steps = line_more old c.push_named-2.new.text.items c.push_counted-2.new.text.items
    (Title v ∷ Count c.from.result ∷ Start c.start.result ∷ End c.end.result ∷ []) (Steps c.steps.result) second
    c.in_ok-push_counted-2.ensures in
    on_ok c.push_place.result (λ last.
    line_more old c.push_counted-2.new.text.items c.push_place.new.text.items
    (Title v ∷ Count c.from.result ∷ Start c.start.result ∷ End c.end.result ∷ Steps c.steps.result ∷ [])
    (At c.place.result) steps last
    ∙ (λ i. old ++ lines_text (Title (c.version.ensures i) ∷ Count (counted i) ∷ Start (c.start.ensures i)
    ∷ End (c.end.ensures i) ∷ Steps (c.steps.ensures i) ∷ At (c.place.ensures i) ∷ [])))
    c.push_place.ensures
