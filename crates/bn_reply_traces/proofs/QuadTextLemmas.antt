-- What is said of a moment of a run of a machine of quadruples, piece by piece; and the last line.
use Rattle.std.specs.Prelude.{◌≡◌, ℕ, List, ◌++◌, length, codes, decimal, refl}
use Rattle.std.proofs.Common.{sym, subst, ap, ◌∙◌, append_assoc}
use Rattle.bn_machine.specs.Tape.{Tape}
use Rattle.bn_machine.specs.Window.{Windowed}
use Rattle.bn_quad.specs.Quadruples.{Configuration}
use Rattle.bn_qtable.specs.Rows.{QuadTable}
use Rattle.bn_reply_traces.specs.ConfigurationText.{IsConfigurationText, name_in}
use Rattle.bn_reply_traces.specs.MomentText.{IsTapeText}
use Rattle.bn_reply_traces.specs.QuadStages.{IsTapeStage}
use Rattle.bn_reply_traces.specs.declared.extent.Extent.{Extent}

-- ---- a tape

-- the names by which a tape is told are the tape's
pub stage_named : (names result : List (List ℕ)) → result ≡ names
    → (word : List ℕ) (n i : ℕ) (w : Windowed) (e : Extent)
    (x : Tape) → IsTapeStage (length names) word n i w e x → IsTapeStage (length result) word n i w e x
stage_named names result is word n i w e x h =
    subst (λ (ns : List (List ℕ)). IsTapeStage (length ns) word n i w e x) (sym is) h

-- a tape was told by them
pub tape_told : (names result : List (List ℕ)) → result ≡ names → (x : Tape) (old new number : List ℕ) →
    ((shown : List ℕ) × IsTapeText (name_in result) x shown × (new ≡ old ++ (number ++ shown))) →
    (shown : List ℕ) × IsTapeText (name_in names) x shown × (new ≡ old ++ (number ++ shown))
tape_told names result is x old new number h =
    (h.0, subst (λ (ns : List (List ℕ)). IsTapeText (name_in ns) x h.0) is h.1, h.2)

-- ---- a configuration

joined : (old a b name x one y two z three : List ℕ) →
    (((((old ++ a) ++ b) ++ name) ++ (x ++ one)) ++ (y ++ two)) ++ (z ++ three)
    ≡ old ++ (a ++ (b ++ (name ++ (x ++ (one ++ (y ++ (two ++ (z ++ three))))))))
joined old a b name x one y two z three = simp append_assoc

pub configuration_pushed : (t : QuadTable) (i : ℕ) (c : Configuration ℕ) (name old o1 o2 o3 o4 o5 o6 : List ℕ) →
    name ≡ name_in t.names.states c.state → o1 ≡ old ++ decimal i → o2 ≡ o1 ++ codes " " → o3 ≡ o2 ++ name →
    ((shown : List ℕ) × IsTapeText (name_in t.names.one) c.one shown × (o4 ≡ o3 ++ (codes " tape 1" ++ shown))) →
    ((shown : List ℕ) × IsTapeText (name_in t.names.two) c.two shown × (o5 ≡ o4 ++ (codes " tape 2" ++ shown))) →
    ((shown : List ℕ) × IsTapeText (name_in t.names.three) c.three shown × (o6 ≡ o5 ++ (codes " tape 3" ++ shown))) →
    (shown : List ℕ) × IsConfigurationText t i c shown × (o6 ≡ old ++ shown)
configuration_pushed t i c name old o1 o2 o3 o4 o5 o6 is h1 h2 h3 one two three = (
  _,
  record {
    one = one.0;
    two = two.0;
    three = three.0;
    one_is = one.1;
    two_is = two.1;
    three_is = three.1;
    is = refl;
  },
  three.2
      ∙ ap (λ (z : List ℕ). z ++ (codes " tape 3" ++ three.0)) (two.2
      ∙ ap (λ (z : List ℕ). z ++ (codes " tape 2" ++ two.0)) (one.2
      ∙ ap (λ (z : List ℕ). z ++ (codes " tape 1" ++ one.0)) (h3
      ∙ (λ k. h2 k ++ is k) ∙ ap (λ (z : List ℕ). (z ++ codes " ") ++ name_in t.names.states c.state) h1)))
      ∙ joined old (decimal i) (codes " ") (name_in t.names.states c.state) (codes " tape 1") one.0 (codes " tape 2")
      two.0
      (codes " tape 3") three.0,
)

-- ---- the last line

joined_nine : (old a b c d e f g h k : List ℕ) →
    ((((((((old ++ a) ++ b) ++ c) ++ d) ++ e) ++ f) ++ g) ++ h) ++ k
    ≡ old ++ (a ++ (b ++ (c ++ (d ++ (e ++ (f ++ (g ++ (h ++ k))))))))
joined_nine old a b c d e f g h k = simp append_assoc

pub nine_pieces : (old a b c d e f g h k o1 o2 o3 o4 o5 o6 o7 o8 o9 : List ℕ) → o1 ≡ old ++ a → o2 ≡ o1 ++ b →
    o3 ≡ o2 ++ c → o4 ≡ o3 ++ d → o5 ≡ o4 ++ e → o6 ≡ o5 ++ f → o7 ≡ o6 ++ g → o8 ≡ o7 ++ h → o9 ≡ o8 ++ k →
    o9 ≡ old ++ (a ++ (b ++ (c ++ (d ++ (e ++ (f ++ (g ++ (h ++ k))))))))
nine_pieces old a b c d e f g h k o1 o2 o3 o4 o5 o6 o7 o8 o9 h1 h2 h3 h4 h5 h6 h7 h8 h9 =
    h9
    ∙ ap (λ z. z ++ k) (h8 ∙ ap (λ z. z ++ h) (h7 ∙ ap (λ z. z ++ g) (h6 ∙ ap (λ z. z ++ f) (h5 ∙ ap (λ z. z ++ e) (h4
    ∙ ap (λ z. z ++ d) (h3 ∙ ap (λ z. z ++ c) (h2 ∙ ap (λ z. z ++ b) h1)))))))
    ∙ joined_nine old a b c d e f g h k
