use Rattle.bn_reply_builds.proofs.stop.stop_of.Goals as goal

pub returns : goal.returns
returns c = λ l d is.
    let one = c.first_symbol.ensures l d is in
    let two = c.second_symbol.ensures l d is in
    let three = c.third_symbol.ensures c.args.machine.now l c.args.read d is in
    λ i. record { state = is.state i; one = one i; two = two i; three = three i }
