-- What a sink that remembers how its text began has kept.
use Rattle.std.specs.Prelude.{ℕ, List}
use Rattle.edge.specs.declared.front.FrontSink.{FrontSink}

-- the first bytes that it took
abbrev pub front_of : {K : Type 0} → FrontSink K → List ℕ
front_of sink = sink.front.items

-- the sink that takes them
abbrev pub inner_of : {K : Type 0} → FrontSink K → K
inner_of sink = sink.inner
