-- The network that lines describe, from its parts.
use Rattle.std.specs.Prelude.{◌≡◌, ℕ, List}
use Rattle.std.proofs.Common.{ap, ◌∙◌}
use Rattle.bn_circuits.specs.declared.line.Line.{Line}
use Rattle.bn_circuits.specs.declared.line.Wire.{Wire}
use Rattle.bn_network_text.specs.Lines.{Page}
use Rattle.bn_network_text.specs.Faults.{count_in, start_in, end_in, place_in, wires_before}
use Rattle.bn_network_text.specs.Networks.{drawing_by, modules_before, line_or}
use Rattle.bn_network_text.specs.declared.module.Module.{Module}

pub same_drawing : (page : Page) (n : ℕ) (modules : List Module) (wires : List Wire) (start end place : Line)
    → n ≡ count_in page.says → modules ≡ modules_before page n → wires ≡ wires_before page.says n
    → start ≡ line_or (start_in page.says) → end ≡ line_or (end_in page.says) → place ≡ line_or (place_in page.says)
    → record { modules = modules; wires = wires; start = start; end = end; place = place } ≡ drawing_by page
same_drawing page n modules wires start end place count ms ws s e p =
    let all_modules : modules ≡ modules_before page (count_in page.says) = ms ∙ ap (modules_before page) count in
    let all_wires : wires ≡ wires_before page.says (count_in page.says) = ws ∙ ap (wires_before page.says) count in
    λ i. record { modules = all_modules i; wires = all_wires i; start = s i; end = e i; place = p i }
