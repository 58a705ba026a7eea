-- The bar of a line of a rotary element is one of the two.
use Rattle.std.specs.Prelude.{◌≡◌, ℕ, ◌<◌, List, Option, Some, None, option_map, codes, refl, [], ◌∷◌}
use Rattle.std.specs.Prelude.{◌⊎◌}
use Rattle.std.specs.Prelude.{length, ◌==◌, false}
use Rattle.std.proofs.lemmas.Bool.Decides.{nat_tests}
use Rattle.std.proofs.Common.{arith, subst, sym, ◌∙◌, inl, inr}
use Rattle.std.proofs.lemmas.Option.{option_and_then_some}
use Rattle.bn_netlist_laws.specs.Reading.{word_taken, number_taken, ended}
use Rattle.bn_network_text.specs.Entries.{ModuleLine}
use Rattle.bn_network_text.specs.Saying.{aims_taken, bar_by, bar_taken, machine_taken, rotary_taken, first_head}
use Rattle.bn_network_text.specs.Saying.{head_taken}
use Rattle.bn_network_text.specs.Saying.{entry_of, title_after, first_some, header_said, said}
use Rattle.bn_network_text.specs.declared.entry.Kind.{Kind}
use Rattle.bn_network_text.specs.declared.entry.Kind.TheVariants.{Machine, Rotary}
use Rattle.bn_network_text.specs.declared.sentence.Sentence.{Sentence}
use Rattle.bn_network_text.specs.declared.sentence.Sentence.TheVariants.{Title, Count, Start, End, At, Module}

-- the bar, if it is a rotary element's line, is one of the two
abbrev pub IsLow : Kind → Type 0
IsLow (Machine t q) = Unit {0}
IsLow (Rotary q) = q < 2

abbrev pub IsLowLine : Sentence → Type 0
IsLowLine (Module e) = IsLow e.kind
IsLowLine x = Unit {0}

same_some : {X : Type 0} (x y : X) → ◌≡◌ {A = Option X} (Some x) (Some y) → x ≡ y
same_some x y h = cc

none_some : {X : Type 0} (y : X) → ◌≡◌ {A = Option X} None (Some y) → ⊥
none_some y h = cc

bar_low : (o p : Option (List ℕ)) (b : ℕ × List ℕ) → bar_by o p ≡ Some b → b.0 < 2
bar_low (Some x) p b h = subst (λ (y : ℕ × List ℕ). y.0 < 2) (same_some (0, x) b h) (omega arith)
bar_low None (Some x) b h = subst (λ (y : ℕ × List ℕ). y.0 < 2) (same_some (1, x) b h) (omega arith)
bar_low None None b h = absurd (none_some b h)

bar_taken_low : (bytes : List ℕ) (b : ℕ × List ℕ) → bar_taken bytes ≡ Some b → b.0 < 2
unfolding bar_taken
bar_taken_low bytes b h = bar_low (word_taken (codes "H") bytes) (word_taken (codes "V") bytes) b h

rotary_low : (line : List ℕ) (h : (ℕ × Kind) × List ℕ) → rotary_taken line ≡ Some h → IsLow h.0.1
unfolding rotary_taken
rotary_low line h is =
    option_and_then_some _ (word_taken (codes "e ") line) h is (λ first f h1.
    option_and_then_some _ (number_taken first) h h1 (λ number n h2.
    option_and_then_some _ (word_taken (codes " ") number.1) h h2 (λ second s h3.
    option_and_then_some _ (bar_taken second) h h3 (λ bar b h4.
    subst (λ (x : (ℕ × Kind) × List ℕ). IsLow x.0.1) (same_some _ h h4) (bar_taken_low second bar b)))))

machine_low : (line : List ℕ) (h : (ℕ × Kind) × List ℕ) → machine_taken line ≡ Some h → IsLow h.0.1
unfolding machine_taken
machine_low line h is =
    option_and_then_some _ (word_taken (codes "m ") line) h is (λ first f h1.
    option_and_then_some _ (number_taken first) h h1 (λ number n h2.
    option_and_then_some _ (word_taken (codes " ") number.1) h h2 (λ second s h3.
    option_and_then_some _ (number_taken second) h h3 (λ table t h4.
    option_and_then_some _ (word_taken (codes " ") table.1) h h4 (λ third d h5.
    option_and_then_some _ (number_taken third) h h5 (λ state q h6.
    subst (λ (x : (ℕ × Kind) × List ℕ). IsLow x.0.1) (same_some ((number.0, Machine table.0 state.0), state.1) h h6)
    tt))))))

either_low : (a b : Option ((ℕ × Kind) × List ℕ)) (h : (ℕ × Kind) × List ℕ) → (a ≡ Some h → IsLow h.0.1)
    → (b ≡ Some h → IsLow h.0.1) → first_head a b ≡ Some h → IsLow h.0.1
either_low None b h first second is = second is
either_low (Some x) b h first second is = first is

head_low : (line : List ℕ) (h : (ℕ × Kind) × List ℕ) → head_taken line ≡ Some h → IsLow h.0.1
unfolding head_taken
head_low line h is = either_low (machine_taken line) (rotary_taken line) h (machine_low line h) (rotary_low line h) is

entry_low : (line : List ℕ) (e : ModuleLine) → entry_of line ≡ Some e → IsLow e.kind
unfolding entry_of
entry_low line e is =
    option_and_then_some _ (head_taken line) e is (λ head h h1.
    option_and_then_some _ (aims_taken _ head.1) e h1 (λ aims a h2.
    subst (λ (x : ModuleLine). IsLow x.kind) (same_some _ e h2) (head_low line head h)))

-- a line of the header is none of a module
mapped_low : {X : Type 0} (f : X → Sentence) → ((x : X) → IsLowLine (f x)) → (o : Option X) (x : Sentence)
    → option_map f o ≡ Some x → IsLowLine x
mapped_low f low None x h = absurd (none_some x h)
mapped_low f low (Some y) x h = subst IsLowLine (same_some (f y) x h) (low y)

some_bytes : (b : ℕ) (bytes : List ℕ) → (length (b ∷ bytes) == 0) ≡ false
some_bytes b bytes = grind (arith, nat_tests)

title_low : (word line : List ℕ) (x : Sentence) → title_after word line ≡ Some x → IsLowLine x
unfolding title_after
title_low word line x is =
    option_and_then_some _ (word_taken word line) x is (λ behind b h1. by_end behind (ended_is behind) h1)
  where
    ended_is : (behind : List ℕ) → (ended (Title, behind) ≡ Some Title) ⊎ (ended (Title, behind) ≡ None)
    ended_is [] = inl refl
    ended_is (b ∷ behind) = inr (rw (some_bytes b behind) refl)

    by_end : (behind : List ℕ) → (ended (Title, behind) ≡ Some Title) ⊎ (ended (Title, behind) ≡ None)
        → ended (Title, behind) ≡ Some x → IsLowLine x
    by_end behind (inl some) h = subst IsLowLine (same_some Title x (sym some ∙ h)) tt
    by_end behind (inr none) h = absurd (none_some x (sym none ∙ h))

first_low : (a b : Option Sentence) (x : Sentence) → (a ≡ Some x → IsLowLine x) → (b ≡ Some x → IsLowLine x)
    → first_some a b ≡ Some x → IsLowLine x
first_low None b x first second is = second is
first_low (Some y) b x first second is = first is

header_low : (line : List ℕ) (x : Sentence) → header_said line ≡ Some x → IsLowLine x
unfolding header_said
header_low line x is =
    first_low _ _ x (title_low (codes "network 1") line x)
    (first_low _ _ x (mapped_low Count (λ _. tt) _ x)
    (first_low _ _ x (mapped_low Start (λ _. tt) _ x)
    (first_low _ _ x (mapped_low End (λ _. tt) _ x) (mapped_low At (λ _. tt) _ x)))) is

pub said_low : (line : List ℕ) (x : Sentence) → said line ≡ Some x → IsLowLine x
unfolding said
said_low line x is =
    first_low (header_said line) (option_map Module (entry_of line)) x (header_low line x)
    (by_entry (entry_of line) refl)
    is
  where
    by_entry : (o : Option ModuleLine) → entry_of line ≡ o → option_map Module o ≡ Some x → IsLowLine x
    by_entry None none h = absurd (none_some x h)
    by_entry (Some e) some h = subst IsLowLine (same_some (Module e) x h) (entry_low line e some)
