-- A piece as it is kept, and as it is seen.
use Rattle.frame.specs.declared.piece.Piece.TheInside.{Inside}
use Rattle.frame.specs.Pieces.{PieceView}

abbrev pub fields_of : Inside → PieceView
fields_of a = record {
  from = a.from;
  to = a.to;
  message = a.message;
  piece = a.piece;
  last = a.last;
  used = a.used;
  partition = a.partition;
  payload = a.payload;
}

abbrev pub inside_of : PieceView → Inside
inside_of v = record {
  from = v.from;
  to = v.to;
  message = v.message;
  piece = v.piece;
  last = v.last;
  used = v.used;
  partition = v.partition;
  payload = v.payload;
}
