-- A FILE OF WHICH ONE STREAM CHANGED is the node that it was, but for its streams.
use Rattle.std.proofs.Common.{◌≡◌, ◌≢◌, ◌≤◌, ℕ, Bool, true, false, List, [], Option, Some, None, refl, sym, ap, ◌∙◌, arith, if◌then◌else◌}
use Rattle.std.specs.List.{count_by}
use Rattle.std.specs.Option.{option_map}
use Rattle.ntfs_def.specs.StandardInformation.{standard_security, standard_times}
use Rattle.ntfs_def.specs.declared.kinds.TheConstants.{DATA, FILE_NAME, REPARSE_POINT, STANDARD_INFORMATION}
use Rattle.volume_def.specs.Files.{parts, parts_at, records_of}
use Rattle.volume_def.specs.Readable.{IsFile}
use Rattle.volume_def.specs.Values.{first_part, is_first}
use Rattle.volume_def.specs.View.{VolumeView}
use Rattle.tree_model.specs.Hidden.{is_hidden}
use Rattle.tree_model.specs.Reading.{node_at, point_by, shown_content, standard_flags, streams_of}
use Rattle.tree_model.specs.declared.tree.Node.{Node}
use Rattle.tree_model.specs.declared.tree.Stream.{Stream}
use Rattle.edit_def.specs.Kept.{Key, Told, told_by}
use Rattle.edit_def.specs.Names.{Numbers, numbers_at}
use Rattle.edit_def.proofs.NodeLaws.{node-numbers, node_with, number-file, point-first, standard-kept-at}
use Rattle.edit_def.proofs.ShownLaws.{others-kept}
use Rattle.edit_def.proofs.ToldLaws.{content-kept, first-kept, one-first}
use Rattle.stream_edits.specs.Names.{EditsStream, IsUnseenButStreams}

standard-no-stream : STANDARD_INFORMATION ≢ DATA
standard-no-stream e = cc

point-no-stream : REPARSE_POINT ≢ DATA
point-no-stream e = absurd (omega (arith, e))

point-no-name : REPARSE_POINT ≢ FILE_NAME
point-no-name e = cc

module _ (changed : Key → Bool) (old new : VolumeView) (f : ℕ) (name : List ℕ) (e : EditsStream changed old new f name)
    (unseen : IsUnseenButStreams changed f) where
  one : (kind : ℕ) (name : List ℕ) → kind ≢ FILE_NAME → count_by is_first (parts_at old f kind name) ≤ 1
  one kind name other = one-first old f kind name e.bases e.readable.extents other

  node-streams : IsFile old f → IsFile new f → (dir : Bool)
      → node_with new dir (parts (records_of new) f)
      ≡ record (node_with old dir (parts (records_of old) f)) { streams = streams_of new (parts (records_of new) f) }
  node-streams file file_new dir =
      let standard = standard-kept-at changed old new f e.kept e.size e.readable e.readable_now e.bases
      (unseen STANDARD_INFORMATION [] refl standard-no-stream) file file_new in
      let free = unseen REPARSE_POINT [] refl point-no-stream in
      let told = first-kept changed old new f REPARSE_POINT [] e.kept free (one REPARSE_POINT [] point-no-name) e.size in
      let content = content-kept changed old new f REPARSE_POINT [] e.kept free (one REPARSE_POINT [] point-no-name) e.size in
      let point = point-first new f e.readable_now file_new
      ∙ ap (λ o. option_map (λ (t : Told). point_by (shown_content new (parts_at new f REPARSE_POINT []))) o) told
      ∙ ap (λ content. option_map (λ (t : Told). point_by content)
      (option_map told_by (first_part (parts_at old f REPARSE_POINT [])))) content
      ∙ sym (point-first old f e.readable file) in
      let others = others-kept changed old new f e.kept e.size one
      (λ kind other seen no_stream times. unseen kind other seen no_stream) e.fold in
      λ i. record {
        dir = dir;
        times = standard_times (standard i);
        flags = standard_flags (standard i);
        security = standard_security (standard i);
        streams = streams_of new (parts (records_of new) f);
        point = point i;
        others = others i;
      }

  pub node-changed : numbers_at (records_of new) f ≡ numbers_at (records_of old) f → is_hidden (records_of new) f
      ≡ is_hidden (records_of old) f
      → (change : List Stream → List Stream)
      → streams_of new (parts (records_of new) f) ≡ change (streams_of old (parts (records_of old) f))
      → node_at new f ≡ option_map (λ (node : Node). record node { streams = change node.streams }) (node_at old f)
  node-changed numbers hides change streams =
      node-numbers new f
      ∙ ap (λ b. if b then None else option_map (λ (n : Numbers). node_with new n.directory (parts (records_of new) f)) (numbers_at
      (records_of new) f)) hides
      ∙ by (is_hidden (records_of old) f) (numbers_at (records_of new) f) (numbers_at (records_of old) f) refl refl numbers
      ∙ sym (ap (option_map (λ (node : Node). record node { streams = change node.streams })) (node-numbers old f))
    where
      by : (b : Bool) (o u : Option Numbers) → numbers_at (records_of new) f ≡ o → numbers_at (records_of old) f ≡ u → o ≡ u
          → (if b then None else option_map (λ (n : Numbers). node_with new n.directory (parts (records_of new) f)) o)
          ≡ option_map (λ (node : Node). record node { streams = change node.streams })
          (if b then None else option_map (λ (n : Numbers). node_with old n.directory (parts (records_of old) f)) u)
      by true o u a b q = refl
      by false None None a b q = refl
      by false None (Some n) a b q = cc
      by false (Some n) None a b q = cc
      by false (Some n) (Some m) a b q =
          let same : n ≡ m = cc in
          ap Some (ap (λ (k : Numbers). node_with new k.directory (parts (records_of new) f)) same
          ∙ node-streams (number-file old f m b) (number-file new f n a) m.directory
          ∙ ap (λ ss. record (node_with old m.directory (parts (records_of old) f)) { streams = ss }) streams)
