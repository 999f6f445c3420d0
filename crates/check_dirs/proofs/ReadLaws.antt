-- What a record that was fetched says.
use Rattle.std.proofs.Common.{◌≡◌, ℕ, List, Option, Some, None, Bool, true, false, length, sym, ap, ◌∙◌, cond}
use Rattle.std.specs.Option.{option_and_then}
use Rattle.ntfs_def.specs.declared.index.NodeForm.{NodeForm}
use Rattle.ntfs_def.specs.Node.{Node, Whole, are_short, node_in, scan_node, short_node, whole_of}
use Rattle.index_node.specs.declared.NodeNo.{NodeNo}
use Rattle.index_node.specs.declared.NodeNo.TheVariants.{Shape, Full}
use Rattle.index_node.specs.View.{Refuses}
use Rattle.index_store.specs.IndexRecords.{Fetches}
use Rattle.check_dirs.specs.Records.{Records, short_nodes}

pub fetched_none : (here : Option (List ℕ)) (found : Bool) (into : List ℕ) → found ≡ false → Fetches here found into → here ≡ None
fetched_none here true into e h = absurd (let f : true ≡ false = e in cc)
fetched_none here false into e h = h

pub fetched_some : (here : Option (List ℕ)) (found : Bool) (into : List ℕ) → found ≡ true → Fetches here found into → here ≡ Some into
fetched_some here true into e h = h
fetched_some here false into e h = absurd (let f : false ≡ true = e in cc)

-- Bytes that say a node, by whether its entries are short.
module _ (form : NodeForm) (bytes : List ℕ) where
  abbrev pub where_short : Node → Option Node
  where_short said = cond (are_short bytes (length said.entries)) (Some said) None

  short_from : (o : Option Node) → node_in form bytes ≡ o → short_node form bytes ≡ option_and_then where_short o
  short_from o e = ap (option_and_then where_short) e

  pub refused : (no : NodeNo) → Refuses form bytes no → short_node form bytes ≡ None
  refused (Shape at) h = short_from None (ap whole_of h)
  refused (Full need free) h = absurd h

  module _ (node : Node) (said : scan_node form bytes ≡ Whole node) (shown : List ℕ) (same : shown ≡ bytes) (short : Bool)
      (is : short ≡ are_short shown (length node.entries)) where
    tested : (b : Bool) → short ≡ b → short_node form bytes ≡ cond b (Some node) None
    tested b e =
        short_from (Some node) (ap whole_of said)
        ∙ ap (λ x. cond x (Some node) None) (sym (ap (λ xs. are_short xs (length node.entries)) same) ∙ sym is ∙ e)

    pub is_short : short ≡ true → short_node form bytes ≡ Some node
    is_short e = tested true e

    pub is_long : short ≡ false → short_node form bytes ≡ None
    is_long e = tested false e

module _ (form : NodeForm) (records : Records) (vcn : ℕ) where
  pub no_record : records vcn ≡ None → short_nodes form records vcn ≡ None
  no_record e = ap (option_and_then (short_node form)) e

  pub at_record : (bytes : List ℕ) (o : Option Node) → records vcn ≡ Some bytes → short_node form bytes ≡ o
      → short_nodes form records vcn ≡ o
  at_record bytes o e h = ap (option_and_then (short_node form)) e ∙ h
