use Rattle.std.proofs.Common.{ℕ, List, subst, sym}
use Rattle.std.proofs.lemmas.Result.{err_from_is_err_and}
use Rattle.bn_netlist.proofs.ReadingLemmas.{whole_given, cut_given}
use Rattle.bn_netlist.proofs.PieceLemmas.{IsPieceRead, none_read, piece_kept, piece_line, piece_refused}
use Rattle.bn_netlist.proofs.PieceLemmas.{piece_cut_refused}
use Rattle.bn_netlist.proofs.front.Front.push.Goals as goal

pub loop-end-init : goal.loop-end-init
loop-end-init c =
    subst (λ (left : List ℕ). IsPieceRead c.args.piece.now left c.args.self.line.items c.args.self.stage
    c.args.self.line.items c.args.self.stage) (sym c.new-lines.ensures)
    (none_read c.args.piece.now c.args.self.line.items c.args.self.stage)

pub take_line-requires : goal.take_line-requires
take_line-requires c =
    let come = c.loop-end.invariant.come c.requires.0 c.requires.1 in
    record { lines = come.lines; are = come.are }

pub returns-in_err-take_line-in-Whole-clause-refused : goal.returns-in_err-take_line-in-Whole-clause-refused
returns-in_err-take_line-in-Whole-clause-refused c =
    let given = whole_given c.loop-end.lines _ _ c.in-Whole.end c.in-Whole.is c.next_line.follows.holds-at-none in
    let p = err_from_is_err_and c.from_residual.result c.from_residual.ensures.1 in
    rw (p.1, p.2) (piece_refused c.args.piece.now c.loop-end.lines c.args.self.line.items c.args.self.stage
    c.loop-end.line.items c.loop-end.stage c.in-Whole.end.now c.next_line.follows.lender-at-none _
    c.loop-end.invariant given c.in_err-take_line-in-Whole.ensures.refused)

pub loop-end-preserved-in-Continue-1 : goal.loop-end-preserved-in-Continue-1
loop-end-preserved-in-Continue-1 c =
    let given = whole_given c.loop-end.lines _ _ c.in-Whole.end c.in-Whole.is c.next_line.follows.holds-at-none in
    piece_line c.args.piece.now c.loop-end.lines c.args.self.line.items c.args.self.stage c.loop-end.line.items
    c.loop-end.stage c.take_line.new.stage c.in-Whole.end.now c.next_line.follows.lender-at-none
    c.take_line.new.line.items c.loop-end.invariant given.1 c.in_ok-take_line-in-Whole.ensures.cleared
    c.in_ok-take_line-in-Whole.ensures.taken

pub loop-end-preserved : goal.loop-end-preserved
loop-end-preserved c =
    let given = cut_given c.loop-end.lines _ _ c.in-Cut.begin c.in-Cut.is c.next_line.follows.holds-at-none in
    piece_kept c.args.piece.now c.loop-end.lines c.args.self.line.items c.args.self.stage c.loop-end.line.items
    c.loop-end.stage c.in-Cut.begin.now c.next_line.follows.lender-at-none c.keep.new.line.items
    c.loop-end.invariant given c.in_ok-keep-in-Cut.ensures.kept

pub returns-in_err-keep-in-Cut-clause-refused : goal.returns-in_err-keep-in-Cut-clause-refused
returns-in_err-keep-in-Cut-clause-refused c =
    let given = cut_given c.loop-end.lines _ _ c.in-Cut.begin c.in-Cut.is c.next_line.follows.holds-at-none in
    let p = err_from_is_err_and c.from_residual-in_err-keep-in-Cut.result c.from_residual-in_err-keep-in-Cut.ensures.1
    in
    rw (p.1, p.2) (piece_cut_refused c.args.piece.now c.loop-end.lines c.args.self.line.items c.args.self.stage
    c.loop-end.line.items c.loop-end.stage c.in-Cut.begin.now c.next_line.follows.lender-at-none
    c.next_line-in-Cut.result _ c.loop-end.invariant given c.next_line-in-Cut.ensures
    c.in_err-keep-in-Cut.ensures.refused)
