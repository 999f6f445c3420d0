-- A directory that is listed link by link.
use Rattle.std.proofs.Common.{◌≡◌, ◌++◌, ◌∷◌, [], ℕ, suc, List, Option, Some, None, Contains, append_assoc, append-nil}
use Rattle.std.proofs.Common.{arith, refl, sym, ap, ◌∙◌, subst}
use Rattle.std.specs.List.{cons_option, filter_map}
use Rattle.std.specs.Option.{option_to_list}
use Rattle.volume_def.specs.View.{VolumeView}
use Rattle.tree_model.proofs.ReadingLaws.{links_in_order-read}
use Rattle.tree_model.specs.Answers.{ls_line, listing}
use Rattle.tree_model.specs.Reading.{directory_links, read}
use Rattle.tree_model.specs.declared.reply.Listed.{Listed}
use Rattle.tree_model.specs.declared.tree.Link.{Link}
use Rattle.tree_read.specs.Above.{AreAbove}
use Rattle.tree_read.specs.declared.above.Above.{Above}

-- These lines stand for the links of the directory that were passed, and these links are left; the names above are those that were
-- read.
pub record AreListed (view : VolumeView) (dir : ℕ) (above : Above) (lines : List Listed) (rest : List Link) : Type 0 where
  pub above_is : AreAbove view above
  pub among : (link : Link) → Contains rest link → Contains (directory_links view dir) link
  pub leads : lines ++ filter_map (ls_line (read view)) rest ≡ listing (read view) dir

-- one line more
line-more : (lines : List Listed) (line : Option Listed) (rest : List Listed)
    → (lines ++ option_to_list line) ++ rest ≡ lines ++ cons_option line rest
line-more lines None rest = ap (λ xs. xs ++ rest) (append-nil lines)
line-more lines (Some line) rest = append_assoc lines (line ∷ []) rest

behind_first : (link other : Link) (rest : List Link) → Contains rest other → Contains (link ∷ rest) other
behind_first link other rest c = (suc c.0, omega (arith, c.1), c.2)

module _ (view : VolumeView) (dir : ℕ) where
  pub list-begins : (above : Above) (links : List Link) → AreAbove view above → links ≡ directory_links view dir
      → AreListed view dir above [] links
  unfolding listing
  list-begins above links are is = record {
    above_is = are;
    among = λ link. subst (λ xs. Contains xs link) is;
    leads = ap (filter_map (ls_line (read view))) (is ∙ sym (links_in_order-read view dir));
  }

  pub list-among : (above : Above) (lines : List Listed) (link : Link) (rest : List Link) → AreListed view dir above lines (link ∷ rest)
      → Contains (directory_links view dir) link
  list-among above lines link rest is = is.among link (0, omega arith, refl)

  pub list-goes : (above new : Above) (lines : List Listed) (link : Link) (rest : List Link) (line : Option Listed)
      → AreListed view dir above lines (link ∷ rest) → AreAbove view new → line ≡ ls_line (read view) link
      → AreListed view dir new (lines ++ option_to_list line) rest
  list-goes above new lines link rest line is are line_is = record {
    above_is = are;
    among = λ other c. is.among other (behind_first link other rest c);
    leads = line-more lines line (filter_map (ls_line (read view)) rest)
        ∙ ap (λ o. lines ++ cons_option o (filter_map (ls_line (read view)) rest)) line_is
        ∙ is.leads;
  }

  pub list-ends : (above : Above) (lines : List Listed) → AreListed view dir above lines [] → listing (read view) dir ≡ lines
  list-ends above lines is = sym (sym (append-nil lines) ∙ is.leads)
