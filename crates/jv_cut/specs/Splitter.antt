-- The fields of a splitter.
use Rattle.std.specs.Prelude.{drop}
use Rattle.jv_cut.specs.Rest.{Rest}
use Rattle.jv_cut.specs.declared.splitting.Splitter.TheInside.{Inside}

abbrev pub rest_of : Inside → Rest
rest_of s = record { unread = drop s.start s.buffer.items; place = s.place; ended = s.ended }
