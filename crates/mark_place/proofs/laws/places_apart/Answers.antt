use Rattle.mark_place.proofs.PlacesApart as places
use Rattle.mark_place.proofs.laws.places_apart.Goals as goal

pub returns-clause-records : goal.returns-clause-records
returns-clause-records c view flag g n sector sound o some is belongs other there =
    places.record-beside view o some sound flag is g n sector belongs other there

pub returns-clause-records_log : goal.returns-clause-records_log
returns-clause-records_log c view spans n sector o some are there = places.record-log view o some spans n sector are there

pub returns-clause-streams : goal.returns-clause-streams
returns-clause-streams c view flag f kind name at len sector sound o some is elsewhere there =
    places.stream-beside view o some sound flag is f kind name elsewhere at len sector there

pub returns-clause-streams_log : goal.returns-clause-streams_log
returns-clause-streams_log c view spans f kind name at len sector o some are elsewhere there =
    places.stream-log view o some f kind name elsewhere at len sector there spans are

pub returns-clause-flag_log : goal.returns-clause-flag_log
returns-clause-flag_log c view flag spans sound o some is are = places.flag-log view o some sound flag is spans are
