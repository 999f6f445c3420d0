-- Lines of `links` with the texts of their paths.
use Rattle.std.specs.Prelude.{List, map}
use Rattle.tree_model.specs.declared.reply.ShownLink.{ShownLink}
use Rattle.tree_read.specs.declared.line.Line.{Line}

-- what is shown of lines
abbrev pub shown_in : List Line → List ShownLink
shown_in lines = map (λ (line : Line). line.shown) lines
