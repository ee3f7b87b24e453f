-- `listing::list` meets its contract. Assumes nothing.
use mathlib.Core.Path.{◌∙◌, sym}
use Rattle.label_file.proofs.Readings.{read_whole}
use Rattle.listing.proofs.list.Goals as goal

pub print_labels-requires : goal.print_labels-requires
print_labels-requires g c = sym (read_whole _) ∙ sym c.read.ensures ∙ c.in-Ok.is
