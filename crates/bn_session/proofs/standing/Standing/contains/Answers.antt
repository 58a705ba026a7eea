use Rattle.std.proofs.Common.{◌∙◌, sym}
use Rattle.std.specs.Prelude.{bytes_eq}
use Rattle.bn_csv.proofs.PlaceFacts.{any-map}
use Rattle.bn_session.proofs.standing.Standing.contains.Goals as goal

pub returns : goal.returns
returns c = rw (← c.self.view_is) (c.contains.ensures ∙ sym (any-map (bytes_eq c.args.label.now) (λ v. v.items)
    c.self.inside.labels.keys))
