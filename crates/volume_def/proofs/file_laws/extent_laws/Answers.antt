use Rattle.volume_def.proofs.ExtentLaws.{AreStream-SameItems, spot_at-SameItems, spot_at-exact, stream-first, stream-holds}
use Rattle.volume_def.proofs.SaidLaws.{AreStream-said, spot_at-said}
use Rattle.volume_def.proofs.SpanLaws.{find-spans, several-cover, spot-spans}
use Rattle.volume_def.proofs.file_laws.extent_laws.Goals as goal

pub returns : goal.returns
returns c = record {
  holds = λ size f vcn extents s. stream-holds size f extents vcn s;
  first = stream-first;
  order = λ size f extents other s h. AreStream-SameItems size f extents other h s;
  spots = λ size f vcn extents other s h. spot_at-SameItems extents other vcn h (stream-holds size f extents vcn s);
  runs = λ size f vcn extents s. spot_at-exact size f extents vcn s;
  said = λ size f extents other s h. AreStream-said size f extents other h s;
  said_spots = λ size f vcn extents other s h. spot_at-said size f extents other vcn h s;
  search = λ size f vcn extents s. spot-spans size f extents vcn s;
  found = λ size f vcn extents s all. find-spans size f extents vcn s all;
  several = several-cover;
}
