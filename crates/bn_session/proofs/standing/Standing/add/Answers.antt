-- A new label goes last.
use Rattle.std.proofs.Common.{◌≡◌, ◌∙◌, sym, refl, false}
use Rattle.std.specs.Prelude.{bytes_eq}
use Rattle.std.specs.List.{list_any}
use Rattle.std.proofs.lemmas.List.{map-append}
use Rattle.bn_csv.proofs.PlaceFacts.{any-map}
use Rattle.bn_session.proofs.standing.Standing.add.Goals as goal

pub returns : goal.returns
returns c =
    let items = c.in_ok-owned.ensures.items in
    let keys = c.in_ok-insert.ensures.keys in
    let new : list_any (λ (v : _). bytes_eq c.in_ok-owned.owned.items v.items) c.self.inside.labels.keys ≡ false =
    rw items (sym (any-map (bytes_eq c.args.label.now) (λ v. v.items) c.self.inside.labels.keys)
    ∙ rw c.self.view_is c.requires) in
    rw (keys, new, map-append, ← c.self.view_is, items) refl
