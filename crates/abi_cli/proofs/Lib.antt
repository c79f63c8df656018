mod StyleLemmas
