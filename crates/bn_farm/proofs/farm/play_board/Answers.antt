use Rattle.bn_circuits.specs.RotaryNets.{rotary_circuit}
use Rattle.bn_farm.proofs.PlayLemmas.{board_config, counted_back, counted_on, played_back, played_on}
use Rattle.bn_farm.proofs.farm.play_board.Goals as goal

pub run-requires : goal.run-requires
run-requires c = board_config c.args.board.now c.requires

pub run_back-requires : goal.run_back-requires
run_back-requires c = board_config c.args.board.now c.requires

pub returns-then-forward-clause-board : goal.returns-then-forward-clause-board
returns-then-forward-clause-board c = played_on c.args.board.now c.args.forward c.args.count c.run.new.config
    c.if-forward.true c.run.ensures.run

pub returns-then-forward-clause-made : goal.returns-then-forward-clause-made
returns-then-forward-clause-made c = counted_on (rotary_circuit c.args.board.now.net) c.args.forward c.run.result
    c.args.board.now.config c.run.new.config c.if-forward.true c.run.ensures.made

pub returns-else-forward-clause-board : goal.returns-else-forward-clause-board
returns-else-forward-clause-board c = played_back c.args.board.now c.args.forward c.args.count c.run_back.new.config
    c.if-forward.false c.run_back.ensures.back

pub returns-else-forward-clause-made : goal.returns-else-forward-clause-made
returns-else-forward-clause-made c = counted_back (rotary_circuit c.args.board.now.net) c.args.forward c.run_back.result
    c.args.board.now.config c.run_back.new.config c.if-forward.false c.run_back.ensures.made
