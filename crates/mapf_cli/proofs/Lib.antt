mod CheckEnds
