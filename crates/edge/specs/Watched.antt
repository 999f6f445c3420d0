-- What a disk stands over that tells how far a reading has come.
use Rattle.edge.specs.declared.watched.WatchedDisk.{WatchedDisk}

abbrev pub inner_of : {R D : Type 0} → WatchedDisk R D → D
inner_of watched = watched.inner
