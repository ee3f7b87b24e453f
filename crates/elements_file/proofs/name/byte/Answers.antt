-- `elements_file::name::byte` meets its contract. Assumes nothing.
use mathlib.Core.Path.{ap, ◌∙◌}
use native.Mathlib.Nat.{le_refl}
use Rattle.std.specs.Prelude.{unwrap_or}
use Rattle.elements_file.specs.Names.{names, name_byte}
use Rattle.elements_file.proofs.name.byte.Goals as goal

pub returns : goal.returns
unfolding names name_byte
returns c =
    c.unwrap_or.ensures ∙ ap (λ o. unwrap_or o 32) c.copied.ensures ∙ c.get.ensures.lookup.4 (le_refl _) 32
